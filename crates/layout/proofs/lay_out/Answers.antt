-- `layout::lay_out` meets its contract.
-- Assumes nothing.
use mathlib.Core.Path.{ap, ◌∙◌}
use Rattle.std.specs.Prelude.{Ok}
use Rattle.base.proofs.RefusalLaws.{refused, accepted, clear, handed_on}
use Rattle.layout.specs.Header.{laid_out}
use Rattle.layout.proofs.lay_out.Goals as goal

pub returns-in_err-header_refusal : goal.returns-in_err-header_refusal
unfolding laid_out
returns-in_err-header_refusal c = handed_on _ c.from_residual.ensures (refused _ _ _ _ c.in_err-header_refusal.ensures)

pub places_of-requires : goal.places_of-requires
places_of-requires c = (clear _ _ _ c.in_ok-header_refusal.ensures).0

pub returns : goal.returns
unfolding laid_out
returns c = ap Ok c.places_of.ensures ∙ accepted _ _ _ _ c.in_ok-header_refusal.ensures
