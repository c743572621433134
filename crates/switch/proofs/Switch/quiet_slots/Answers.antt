-- Assumes nothing.
use native.Mathlib.Omega.{arith}
use mathlib.Core.Path.{◌≡◌, refl, sym, ◌∙◌, ap}
use native.Mathlib.Nat.{not-suc-le-zero}
use borrow.Author.Rules.{rules}
use borrow.Author.Count.{below_more}
use borrow.Author.Tests.{eqb-true, eqb-false}
use Rattle.slot_laws.proofs.Balance.{Sized}
use Rattle.switch.specs.Switch.{held}
use Rattle.switch.specs.Steps.{close_step}
use Rattle.switch.specs.Draining.{closings}
use Rattle.switch.proofs.DrainLaws.{closings_keep, closings_more, drain_may, ended_empty, ended_not_empty}
use Rattle.switch.proofs.Switch.quiet_slots.Goals as goal

pub loop-n-init : goal.loop-n-init
unfolding closings
loop-n-init c = (refl, λ m h. absurd (not-suc-le-zero h))

pub returns-then-is_empty : goal.returns-then-is_empty
returns-then-is_empty c = let a = c.args in
    let l = c.loop-n in
    ended_empty a.self a.limit l.n l.now (omega arith) l.invariant.0 l.invariant.1 (eqb-true _ _ (sym c.is_empty.ensures ∙ c.if-is_empty.true))

pub step-now-requires : goal.step-now-requires
step-now-requires c = let a = c.args in
    let sized : Sized c.args.self.queues = record { incap = search rules; outcap = search rules; crosscap = search rules; inlen = search rules; outlen = search rules; crosslen = search rules } in
    let l = c.loop-n in
    let may = drain_may a.self a.limit c.requires in
    let kept = closings_keep a.self sized may.0 l.n (omega (arith, may.2)) in
    let z = kept.sized in
    record { allowed = rw l.invariant.0 kept.allowed; long = rw l.invariant.0 (z.incap, z.outcap, z.crosscap, z.inlen, z.outlen, z.crosslen) }

pub loop-n-preserved : goal.loop-n-preserved
loop-n-preserved c = let a = c.args in
    let l = c.loop-n in
    let some : held l.now ≡ 0 → ⊥ = eqb-false _ _ (sym c.is_empty.ensures ∙ c.if-is_empty.false) in (
      c.step-now.ensures ∙ ap close_step l.invariant.0 ∙ sym (closings_more a.self l.n),
      below_more (λ m. held (closings a.self m) ≡ 0 → ⊥) l.n l.invariant.1 (λ z. some (ap held l.invariant.0 ∙ z)),
    )

pub returns-then-is_empty-2 : goal.returns-then-is_empty-2
returns-then-is_empty-2 c = let a = c.args in
    let l = c.loop-n in
    let end : l.n ≡ a.limit = omega arith in
    ended_empty a.self a.limit a.limit l.now (omega arith) (l.invariant.0 ∙ ap (closings a.self) end) (λ m h. l.invariant.1 m (omega arith))
    (eqb-true _ _ (sym c.is_empty-2.ensures ∙ c.if-is_empty-2.true))

pub returns-else-is_empty-2 : goal.returns-else-is_empty-2
returns-else-is_empty-2 c = let a = c.args in
    let l = c.loop-n in
    let end : l.n ≡ a.limit = omega arith in
    ended_not_empty a.self a.limit a.limit l.now (omega arith) (l.invariant.0 ∙ ap (closings a.self) end) (λ m h. l.invariant.1 m (omega arith)) (omega arith)
    (eqb-false _ _ (sym c.is_empty-2.ensures ∙ c.if-is_empty-2.false))
