-- `closing::sendings` meets its contract. The invariant: what is left is what the outputs passed leave.
-- Assumes nothing.
use Rattle.queues.specs.Slot.{sendings, free}
use Rattle.closing.specs.Sent.{Sent}
use Rattle.closing.proofs.sendings.Given as goal

abbrev pub invariant-loop-j : goal.invariant-loop-j
invariant-loop-j l = Sent (sendings free l.initial.outlen l.slot l.j) l.outlen l.initial.log l.log l.at l.next
