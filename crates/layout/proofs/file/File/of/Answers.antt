-- `layout::File::of` meets its contract.
-- Assumes nothing.
use Rattle.std.proofs.Common.{refl, ap, ◌∙◌}
use Rattle.base.proofs.RefusalLaws.{clear, handed_on}
use Rattle.layout.specs.File.{places_in}
use Rattle.layout.specs.Header.{laid_out}
use Rattle.layout.proofs.file.File.of.Goals as goal

pub returns-in_err-places-clause-verdict : goal.returns-in_err-places-clause-verdict
unfolding places_in
returns-in_err-places-clause-verdict c = ap places_in (handed_on _ c.from_residual.ensures refl) ∙ c.in_err-places.ensures

pub invariant_of-result : goal.invariant_of-result
unfolding laid_out
invariant_of-result c = let p = clear _ _ _ c.in_ok-places.ensures in record { allowed = p.0; placed = p.1 }

pub returns-clause-verdict : goal.returns-clause-verdict
unfolding places_in
returns-clause-verdict c = c.in_ok-places.ensures
