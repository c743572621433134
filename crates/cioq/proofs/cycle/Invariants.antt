-- `cioq::cycle` meets its contract. The invariant: the queues, the flags, the log and the answer are as the first visits leave them.
-- Assumes nothing.
use Rattle.queues.specs.Ports.{ports_in, inputs_in}
use Rattle.cioq.proofs.CioqLaws.{Upto, first}
use Rattle.cioq.proofs.cycle.Given as goal

abbrev pub invariant-loop-i : goal.invariant-loop-i
invariant-loop-i l = let s = l.cycle.slot in
    Upto (first (ports_in s) (inputs_in s) s.outcap.now l.initial.inlen l.initial.outlen s.number l.cycle.number l.i-index) l.initial.log l.at l.inlen l.outlen l.log l.taken l.went
