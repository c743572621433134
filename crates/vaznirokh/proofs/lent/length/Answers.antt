-- `vaznirokh::lent::length` meets its contract.
-- Assumes nothing.
use mathlib.Core.Path.{ap, ◌∙◌}
use Rattle.base.specs.Refusal.{refusal_of}
use Rattle.vaznirokh.specs.Library.{length_number}
use Rattle.vaznirokh.proofs.LibraryLaws.{tested_length}
use Rattle.vaznirokh.proofs.lent.length.Goals as goal

pub returns : goal.returns
unfolding length_number
returns c = ap refusal_of c.unless.ensures ∙ tested_length _
