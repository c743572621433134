-- `stored::compare_all` meets its contract. Each stored trace takes a byte or more, so the loop ends, and there are no more traces than bytes.
-- Assumes nothing.
use Prim.Native.Nat.{◌+◌, ◌≤◌}
use lib.ListN.{length}
use Rattle.stored.proofs.compare_all.Given as goal

abbrev pub invariant-loop-rest : goal.invariant-loop-rest
invariant-loop-rest l = record {
  few : l.tally.traces + length l.rest ≤ 262144;
  differ : l.tally.differ ≤ l.tally.traces;
}

abbrev pub decreases-loop-rest : goal.decreases-loop-rest
decreases-loop-rest l = length l.rest
