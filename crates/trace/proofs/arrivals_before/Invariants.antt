-- The invariant: the sum so far, at most 65,535 for each slot passed.
use Rattle.std.proofs.Common.{◌≡◌, ◌*◌, ◌≤◌}
use Rattle.base.specs.Below.{sum_below}
use Rattle.trace.specs.Reading.{slot_count}
use Rattle.trace.proofs.arrivals_before.Given as goal

abbrev pub invariant-loop-slot : goal.invariant-loop-slot
invariant-loop-slot l = record { so_far : l.sum ≡ sum_below (slot_count l.trace) l.slot; small : l.sum ≤ 65535 * l.slot }
