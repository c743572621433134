-- The invariant: the sum so far, at most 65,535 for each slot passed.
use Rattle.std.proofs.Common.{◌≡◌, ◌*◌, ◌≤◌}
use Rattle.base.specs.Below.{sum_below}
use Rattle.layout.proofs.file.sum.Given as goal

abbrev pub invariant-loop-t : goal.invariant-loop-t
invariant-loop-t g l = record { so_far : l.sum ≡ sum_below (g.T.Tables.counts l.tables) l.t; small : l.sum ≤ 65535 * l.t }
