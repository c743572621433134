-- `switch::Switch::arrive` meets its contract.
-- Assumes nothing.
use borrow.Author.Rules.{rules}
use mathlib.Core.Path.{ap, ◌∙◌}
use Rattle.std.specs.Prelude.{Ok}
use Rattle.switch.specs.Steps.{arrive}
use Rattle.switch.proofs.AnswersLaws.{stops_with, goes_with, stepped}
use Rattle.switch.proofs.Switch.arrive.Goals as goal

pub returns-in_err-map_err : goal.returns-in_err-map_err
unfolding arrive
returns-in_err-map_err c =
    stops_with c.args.self _ _ (λ e x p. search rules) c.map_err.ensures.cases c.arrive_refusal.ensures _ c.in_err-map_err.was c.from_residual.ensures

pub take-requires : goal.take-requires
take-requires c =
    (goes_with c.args.self _ _ (λ e x p. search rules) c.map_err.ensures.cases c.arrive_refusal.ensures c.in_ok-map_err.was).0

pub returns : goal.returns
unfolding arrive
returns c =
    ap Ok c.take.ensures ∙ stepped _ _ _ (goes_with c.args.self _ _ (λ e x p. search rules) c.map_err.ensures.cases c.arrive_refusal.ensures c.in_ok-map_err.was).0
