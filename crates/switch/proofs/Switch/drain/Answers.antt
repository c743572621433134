-- `switch::Switch::drain` meets its contract.
-- Assumes nothing.
use borrow.Author.Rules.{rules}
use mathlib.Core.Path.{ap, ◌∙◌}
use Rattle.std.specs.Prelude.{Ok}
use Rattle.switch.specs.Draining.{drain}
use Rattle.switch.proofs.AnswersLaws.{stops_with, goes_with, stepped}
use Rattle.switch.proofs.Switch.drain.Goals as goal

pub returns-in_err-map_err : goal.returns-in_err-map_err
unfolding drain
returns-in_err-map_err c =
    stops_with c.args.self _ _ (λ e x p. search rules) c.map_err.ensures.cases c.drain_refusal.ensures _ c.in_err-map_err.was c.from_residual.ensures

pub quiet_slots-requires : goal.quiet_slots-requires
quiet_slots-requires c =
    (goes_with c.args.self _ _ (λ e x p. search rules) c.map_err.ensures.cases c.drain_refusal.ensures c.in_ok-map_err.was).0

pub returns : goal.returns
unfolding drain
returns c =
    ap Ok c.quiet_slots.ensures ∙ stepped _ _ _ (goes_with c.args.self _ _ (λ e x p. search rules) c.map_err.ensures.cases c.drain_refusal.ensures c.in_ok-map_err.was).0
