-- `crossbar::output_part` meets its contract. The invariant: what is left is what the outputs passed leave.
-- Assumes nothing.
use Rattle.queues.specs.Ports.{inputs_in}
use Rattle.queues.specs.Lent.{Left}
use Rattle.queues.specs.Crossbar.{outmoves}
use Rattle.crossbar.proofs.output_part.Given as goal

abbrev pub invariant-loop-j : goal.invariant-loop-j
invariant-loop-j l = let s = l.cycle.slot in
    Left (outmoves (inputs_in s) s.outcap.now l.initial.crosslen l.initial.outlen s.number l.cycle.number l.j) l.crosslen l.outlen l.initial.log l.log l.at l.done
