-- `crossbar::input_part` meets its contract. The invariant: what is left is what the inputs passed leave.
-- Assumes nothing.
use Rattle.queues.specs.Ports.{ports_in, inputs_in}
use Rattle.queues.specs.Lent.{Left}
use Rattle.queues.specs.Crossbar.{crossings}
use Rattle.crossbar.proofs.input_part.Given as goal

abbrev pub invariant-loop-i : goal.invariant-loop-i
invariant-loop-i l = let s = l.cycle.slot in
    Left (crossings (ports_in s) (inputs_in s) s.crosscap.now l.initial.inlen l.initial.crosslen s.number l.cycle.number l.i-index) l.inlen l.crosslen l.initial.log l.log l.at l.done
