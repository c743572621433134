-- `closing::cycles` meets its contract. The invariant: what is left is what the cycles passed leave.
-- Assumes nothing.
use Rattle.queues.specs.Ports.{ports_in, inputs_in}
use Rattle.queues.specs.declared.Queues.{Queues}
use Rattle.queues.specs.Slot.{cycles}
use Rattle.queues.specs.Lent.{Held, LeftAll}
use Rattle.closing.proofs.cycles.Given as goal

abbrev pub invariant-loop-number : goal.invariant-loop-number
invariant-loop-number l = let s = l.slot in
    (q : Queues) → Held q s.outcap.now s.crosscap.now l.initial.inlen l.initial.outlen l.initial.crosslen → LeftAll (cycles s.crossbar q (ports_in s) (inputs_in s) s.number l.number) l.inlen l.outlen l.crosslen l.initial.log l.log l.at l.next
