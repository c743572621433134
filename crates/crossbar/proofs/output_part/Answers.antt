-- `crossbar::output_part` meets its contract.
-- Assumes nothing.
use Rattle.std.proofs.Common.{◌<◌, arith}
use Rattle.queues.specs.Ports.{ports_in, inputs_in}
use Rattle.queues.specs.Queues.{place}
use Rattle.queues.specs.Crossbar.{outmoves}
use Rattle.queues.proofs.MoveLaws.{left_still}
use Rattle.crossbar.proofs.ColumnsLaws.{stays_empty, outmove_none}
use Rattle.crossbar.proofs.CrossbarLaws.{output_more, all_outputs, nothing_then}
use Rattle.crossbar.proofs.output_part.Goals as goal

pub loop-j-init : goal.loop-j-init
unfolding outmoves
loop-j-init c = let a = c.args in
    rw c.none-done.ensures (left_still a.crosslen.now a.outlen.now a.log.now a.at)

-- an output whose crosspoints were empty at the start still has none to take
pub loop-j-preserved-then-bits-j-eq0 : goal.loop-j-preserved-then-bits-j-eq0
loop-j-preserved-then-bits-j-eq0 c = let a = c.args in
    let s = a.cycle.slot in
    let l = c.loop-j in
    let small : l.j < 16 = omega (arith, c.loop-j-test.true, c.ports_of-j-end.ensures) in
    output_more (inputs_in s) s.outcap.now a.crosslen.now a.outlen.now s.number a.cycle.number l.j l.invariant
    (outmove_none (inputs_in s) s.outcap.now l.crosslen l.outlen s.number a.cycle.number l.j
    (λ i. stays_empty (inputs_in s) s.outcap.now a.crosslen.now a.outlen.now s.number a.cycle.number l.j (place i l.j) l.invariant.of_from
    (c.columns-bits.ensures i l.j small c.if-bits-j-eq0.true)) l.log l.done.at)
    (nothing_then l.done)

pub loop-j-preserved : goal.loop-j-preserved
loop-j-preserved c = let a = c.args in
    let s = a.cycle.slot in
    let l = c.loop-j in
    output_more (inputs_in s) s.outcap.now a.crosslen.now a.outlen.now s.number a.cycle.number l.j l.invariant c.outmove-one.ensures c.then-done.ensures

pub returns : goal.returns
returns c = let a = c.args in
    let s = a.cycle.slot in
    let l = c.loop-j in
    all_outputs (ports_in s) l.j (inputs_in s) s.outcap.now a.crosslen.now a.outlen.now s.number a.cycle.number
    (omega (arith, c.loop-j-test.false, l.auto.j-end, c.ports_of-j-end.ensures)) l.invariant
