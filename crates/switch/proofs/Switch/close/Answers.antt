-- `switch::Switch::close` meets its contract.
-- Assumes nothing.
use borrow.Author.Rules.{rules}
use mathlib.Core.Path.{ap, ◌∙◌}
use Rattle.std.specs.Prelude.{Ok}
use Rattle.switch.specs.Steps.{close}
use Rattle.switch.proofs.AnswersLaws.{stops_with, goes_with, stepped}
use Rattle.switch.proofs.SettlingLaws.{may_close}
use Rattle.switch.proofs.Switch.close.Goals as goal

pub returns-in_err-map_err : goal.returns-in_err-map_err
unfolding close
returns-in_err-map_err c =
    stops_with c.args.self _ _ (λ e x p. search rules) c.map_err.ensures.cases c.close_refusal.ensures _ c.in_err-map_err.was c.from_residual.ensures

pub step-requires-clause-allowed : goal.step-requires-clause-allowed
step-requires-clause-allowed c =
    (may_close c.args.self (goes_with c.args.self _ _ (λ e x p. search rules) c.map_err.ensures.cases c.close_refusal.ensures c.in_ok-map_err.was).0).0

pub returns : goal.returns
unfolding close
returns c =
    ap Ok c.step.ensures ∙ stepped _ _ _ (goes_with c.args.self _ _ (λ e x p. search rules) c.map_err.ensures.cases c.close_refusal.ensures c.in_ok-map_err.was).0
