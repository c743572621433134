-- `switch::Switch::arrive_refusal` meets its contract.
-- Assumes nothing.
use mathlib.Core.Path.{refl, ◌∙◌}
use borrow.Author.Tests.{lt-ltb, le-ltb}
use Rattle.base.specs.Refusal.{numbered}
use Rattle.base.proofs.RefusalLaws.{fails, holds, last, refuses, passes, handed_on}
use Rattle.switch.specs.Steps.{arrive_refusal}
use Rattle.switch.proofs.Switch.arrive_refusal.Goals as goal
use Rattle.switch.proofs.Switch.arrive_refusal.Goals.{then-input-self, else-input-self}

pub returns-in_err-refusal : goal.returns-in_err-refusal
unfolding arrive_refusal
returns-in_err-refusal c = handed_on _ c.from_residual.ensures (refuses _ _ _ _ _ c.in_err-refusal.ensures)

pub returns-in_err-unless : goal.returns-in_err-unless
unfolding arrive_refusal numbered
returns-in_err-unless c =
    handed_on _ c.from_residual-in_err-unless.ensures
    (fails _ _ _ _ _ 10 _ c.in_err-unless.ensures (elim c.if-input-self.branch [ then-input-self w ↦ rw (w.unless-is, lt-ltb _ _ w.if-input-self.true) | else-input-self w ↦ rw (w.unless-is, le-ltb _ _ w.if-input-self.false) ]) refl
    ∙ passes _ _ _ _ _ c.in_ok-refusal.ensures)

pub returns : goal.returns
unfolding arrive_refusal numbered
returns c =
    last _ _ _ _ 13 c.unless-2.ensures refl refl
    ∙ holds _ _ _ _ _ 11 _ c.in_ok-unless.ensures (elim c.if-input-self.branch [ then-input-self w ↦ rw (w.unless-is, lt-ltb _ _ w.if-input-self.true) | else-input-self w ↦ rw (w.unless-is, le-ltb _ _ w.if-input-self.false) ])
    ∙ passes _ _ _ _ _ c.in_ok-refusal.ensures
