-- `switch::Switch::new` meets its contract.
-- Assumes nothing.
use borrow.Author.Rules.{rules}
use mathlib.Core.Path.{ap, ◌∙◌}
use Rattle.std.specs.Prelude.{Ok}
use Rattle.trace.specs.Reading.{verdict}
use Rattle.switch.specs.Making.{nought, made}
use Rattle.switch.proofs.AnswersLaws.{stops_with, goes_with, stepped}
use Rattle.switch.proofs.Switch.new.Goals as goal

pub returns-in_err-header : goal.returns-in_err-header
unfolding made verdict
returns-in_err-header c =
    stops_with nought _ _ (λ e x p. search rules) c.map_err.ensures.cases c.examine.ensures _ c.in_err-header.was c.from_residual.ensures

pub fresh-requires : goal.fresh-requires
unfolding verdict
fresh-requires c =
    goes_with nought _ _ (λ e x p. search rules) c.map_err.ensures.cases c.examine.ensures c.in_ok-header.was

pub returns : goal.returns
unfolding made verdict
returns c =
    ap Ok c.fresh.ensures ∙ stepped _ _ _ (goes_with nought _ _ (λ e x p. search rules) c.map_err.ensures.cases c.examine.ensures c.in_ok-header.was).0
