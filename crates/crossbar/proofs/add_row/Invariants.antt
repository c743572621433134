-- `crossbar::add_row` meets its contract. The invariant: bits that are none were none, and the crosspoints passed are empty there.
-- Assumes nothing.
use mathlib.Core.Path.{◌≡◌}
use lib.ListN.{length, get_or}
use Rattle.crossbar.proofs.ColumnsLaws.{Said}
use Rattle.crossbar.proofs.add_row.Given as goal

abbrev pub invariant-loop-j : goal.invariant-loop-j
invariant-loop-j l = (length l.bits ≡ 16) × Said l.initial.bits l.bits (λ j. get_or l.row j 0) l.j
