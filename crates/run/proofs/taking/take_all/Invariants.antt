-- `run::taking::take_all` meets its contract. The invariant: what the arrivals passed leave.
-- Assumes nothing.
use Rattle.std.proofs.Common.{◌≡◌, ◌≤◌, ◌*◌, length, drop}
use Rattle.std.specs.Slice.Iter.{chunks_exact_rest, chunks_exact_size}
use Rattle.run.specs.Taking.{takings, Taken}
use Rattle.run.proofs.taking.take_all.Given as goal

abbrev pub invariant-loop-pair : goal.invariant-loop-pair
invariant-loop-pair l = record {
  size : chunks_exact_size l.pair-iterator ≡ 2;
  rest : chunks_exact_rest l.pair-iterator ≡ drop (2 * length l.yielded) l.part;
  few : l.took.dropped ≤ length l.yielded;
  taken : Taken (takings l.initial.q l.slot l.part (length l.yielded)) l.q l.initial.log l.log l.at l.took;
}
