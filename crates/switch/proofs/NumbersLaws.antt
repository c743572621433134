-- The number of a refused answer is the first refusal's: a new switch's, the two steps' and a drain's.
-- Assumes nothing.
use Prim.Native.Nat.{ℕ, ◌≤◌}
use native.Mathlib.Omega.{arith}
use mathlib.Core.Path.{◌≡◌}
use mathlib.Core.List.{List}
use Rattle.base.specs.Refusal.{refusal_with}
use Rattle.base.proofs.RefusalLaws.{unless_small, chain_small, number_with_judged}
use Rattle.trace.specs.Reading.{reading}
use Rattle.trace.proofs.ReadingLaws.{reading_small}
use Rattle.switch.specs.declared.Switch.{Switch}
use Rattle.switch.specs.Making.{made}
use Rattle.switch.specs.Steps.{arrive_refusal, arrive, close_refusal, close}
use Rattle.switch.specs.Draining.{drain_refusal, drain}

pub refusal_of_made : (s : List ℕ) → refusal_with (made s) ≡ reading s
unfolding made
refusal_of_made s = number_with_judged _ _ _ (omega (arith, reading_small s))

module _ (s : Switch) where
  arrive_small : (i j : ℕ) → arrive_refusal s i j ≤ 18
  unfolding arrive_refusal
  arrive_small i j = chain_small _ _ 18 (unless_small _ 13 18 (omega arith)) (chain_small _ _ 18 (unless_small _ 11 18 (omega arith)) (unless_small _ 14 18 (omega arith)))

  pub refusal_of_arrive : (i j : ℕ) → refusal_with (arrive s i j) ≡ arrive_refusal s i j
  unfolding arrive
  refusal_of_arrive i j = number_with_judged _ _ _ (arrive_small i j)

  close_small : close_refusal s ≤ 18
  unfolding close_refusal
  close_small = chain_small _ _ 18 (unless_small _ 13 18 (omega arith)) (unless_small _ 15 18 (omega arith))

  pub refusal_of_close : refusal_with (close s) ≡ close_refusal s
  unfolding close
  refusal_of_close = number_with_judged _ _ _ close_small

  drain_small : (limit : ℕ) → drain_refusal s limit ≤ 18
  unfolding drain_refusal
  drain_small limit = chain_small _ _ 18 (unless_small _ 13 18 (omega arith)) (chain_small _ _ 18 (unless_small _ 16 18 (omega arith)) (unless_small _ 15 18 (omega arith)))

  pub refusal_of_drain : (limit : ℕ) → refusal_with (drain s limit) ≡ drain_refusal s limit
  unfolding drain
  refusal_of_drain limit = number_with_judged _ _ _ (drain_small limit)
