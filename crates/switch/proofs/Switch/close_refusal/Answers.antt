-- `switch::Switch::close_refusal` meets its contract.
-- Assumes nothing.
use mathlib.Core.Path.{refl, ◌∙◌}
use Rattle.base.specs.Refusal.{numbered}
use Rattle.base.proofs.RefusalLaws.{last, refuses, passes, handed_on}
use Rattle.switch.specs.Steps.{close_refusal}
use Rattle.switch.proofs.Switch.close_refusal.Goals as goal

pub returns-in_err-refusal : goal.returns-in_err-refusal
unfolding close_refusal
returns-in_err-refusal c = handed_on _ c.from_residual.ensures (refuses _ _ _ _ _ c.in_err-refusal.ensures)

pub returns : goal.returns
unfolding close_refusal numbered
returns c = last _ _ _ _ 14 c.unless.ensures refl refl ∙ passes _ _ _ _ _ c.in_ok-refusal.ensures
