-- The limit of an allowed switch, by its counts: what stands in its output queues is what has been moved to them and not been sent, and all of it is small.
-- And the number of a refused one.
-- Assumes nothing.
use Prim.Native.Nat.{◌+◌, ◌-◌, ◌*◌, ◌≤◌}
use native.Mathlib.Omega.{arith}
use mathlib.Core.Path.{◌≡◌, refl}
use mathlib.Core.Bool.{true}
use lib.Dec.{eqb}
use Rattle.base.specs.Refusal.{unless, ◌⨟◌, refusal_of}
use Rattle.base.proofs.RefusalLaws.{unless_zero, chain_zero, unless_small, chain_small, number_of_judged}
use Rattle.switch.specs.declared.Switch.{Switch}
use Rattle.switch.specs.Switch.{held_all, held}
use Rattle.switch.specs.Allowed.{switch_allowed}
use Rattle.switch.proofs.AllowedLaws.{sound}
use Rattle.greedy_bound.specs.Rivalry.{limit_of}
use Rattle.greedy_bound.specs.Answer.{limit_refusal, limit_answer}

module _ (s : Switch) where
  -- what a switch that is not refused has
  pub record Counted : Type 0 where
    pub moved : s.sent ≤ s.outmoved
    pub few : s.outmoved ≤ 4096
    pub limit : 3 * s.sent + 2 * (s.outmoved - s.sent) ≡ limit_of s

  pub counted : limit_refusal s ≡ 0 → Counted
  unfolding limit_refusal limit_of held held_all
  counted e =
      let a = sound s (unless_zero _ 12 (chain_zero _ _ e).0) in
      let arrived = a.arrived in
      let outmoved = a.outmoved in
      let few = a.few in
      record { moved = omega arith; few = omega arith; limit = omega arith }

  pub none_refused : unless (switch_allowed s) 13 ≡ 0 → eqb s.model 1 ≡ true → limit_refusal s ≡ 0
  unfolding limit_refusal ◌⨟◌
  none_refused a m = rw (a, m) (unfold unless in refl)

  -- and the answer's number is the first refusal's
  limit_small : limit_refusal s ≤ 18
  unfolding limit_refusal
  limit_small = chain_small _ _ 18 (unless_small _ 13 18 (omega arith)) (unless_small _ 2 18 (omega arith))

  pub refusal_of_limit : refusal_of (limit_answer s) ≡ limit_refusal s
  unfolding limit_answer
  refusal_of_limit = number_of_judged _ (limit_of s) limit_small
