-- `closing::close` meets its contract.
-- Assumes nothing.
use Rattle.queues.specs.Ports.{ports_in, inputs_in}
use Rattle.closing.proofs.ClosingLaws.{closing_left}
use Rattle.closing.proofs.close.Goals as goal

pub returns : goal.returns
returns c q h = let a = c.args in
    let s = a.slot in
    closing_left s.crossbar q (ports_in s) (inputs_in s) s.number s.speedup a.log.now a.at (c.cycles-next.ensures q h) (rw c.ports_of.ensures at c.sendings.ensures)
