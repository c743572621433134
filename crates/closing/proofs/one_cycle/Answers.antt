-- `closing::one_cycle` meets its contract.
-- Assumes nothing.
use Rattle.queues.specs.Ports.{ports_in, inputs_in}
use Rattle.closing.proofs.ClosingLaws.{cioq_left, crossbar_left}
use Rattle.closing.proofs.one_cycle.Goals as goal

pub returns-then-not-cycle : goal.returns-then-not-cycle
returns-then-not-cycle c q h = let a = c.args in
    let s = a.cycle.slot in
    rw (c.if-not-cycle.true) (cioq_left q (ports_in s) (inputs_in s) s.number a.cycle.number h c.cycle.ensures)

pub returns : goal.returns
returns c q h = let a = c.args in
    let s = a.cycle.slot in
    rw (c.if-not-cycle.false)
    (crossbar_left q (ports_in s) (inputs_in s) s.number a.cycle.number h c.input_part-first.ensures c.output_part-second.ensures c.then.ensures)
