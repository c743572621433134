-- `switch::Switch::drain_refusal` meets its contract.
-- Assumes nothing.
use mathlib.Core.Path.{refl, ◌∙◌}
use Rattle.base.specs.Refusal.{numbered}
use Rattle.base.proofs.RefusalLaws.{fails, holds, last, refuses, passes, handed_on}
use Rattle.switch.specs.Draining.{drain_refusal}
use Rattle.switch.proofs.Switch.drain_refusal.Goals as goal

pub returns-in_err-refusal : goal.returns-in_err-refusal
unfolding drain_refusal
returns-in_err-refusal c = handed_on _ c.from_residual.ensures (refuses _ _ _ _ _ c.in_err-refusal.ensures)

pub returns-in_err-unless : goal.returns-in_err-unless
unfolding drain_refusal numbered
returns-in_err-unless c =
    handed_on _ c.from_residual-in_err-unless.ensures
    (fails _ _ _ _ _ 15 _ c.in_err-unless.ensures refl refl ∙ passes _ _ _ _ _ c.in_ok-refusal.ensures)

pub returns : goal.returns
unfolding drain_refusal numbered
returns c =
    last _ _ _ _ 14 c.unless-2.ensures refl refl
    ∙ holds _ _ _ _ _ 16 _ c.in_ok-unless.ensures refl
    ∙ passes _ _ _ _ _ c.in_ok-refusal.ensures
