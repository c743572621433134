-- `crossbar::input_part` meets its contract.
-- Assumes nothing.
use Rattle.std.proofs.Common.{◌≡◌, length, ap, ◌∙◌, arith}
use Rattle.queues.specs.Ports.{ports_in, inputs_in}
use Rattle.queues.specs.Crossbar.{crossings}
use Rattle.queues.proofs.MoveLaws.{left_still}
use Rattle.crossbar.proofs.CrossbarLaws.{input_more, all_inputs}
use Rattle.crossbar.proofs.input_part.Goals as goal

pub loop-i-init : goal.loop-i-init
unfolding crossings
loop-i-init c = let a = c.args in
    rw c.none-done.ensures (left_still a.inlen.now a.crosslen.now a.log.now a.at)

pub loop-i-preserved : goal.loop-i-preserved
loop-i-preserved c = let a = c.args in
    let s = a.cycle.slot in
    let l = c.loop-i in
    input_more (ports_in s) (inputs_in s) s.crosscap.now a.inlen.now a.crosslen.now s.number a.cycle.number l.i-index l.invariant
    (rw c.inputs-i-items.ensures at c.cross-one.ensures) c.then-done.ensures

pub returns : goal.returns
returns c = let a = c.args in
    let s = a.cycle.slot in
    let l = c.loop-i in
    let all : l.i-index ≡ length c.inputs-i-items.result.now = omega (arith, c.loop-i-test.false, l.auto.i-index-end) in
    all_inputs (ports_in s) l.i-index (inputs_in s) s.crosscap.now a.inlen.now a.crosslen.now s.number a.cycle.number
    (all ∙ ap length c.inputs-i-items.ensures) l.invariant
