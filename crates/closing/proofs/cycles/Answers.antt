-- `closing::cycles` meets its contract.
-- Assumes nothing.
use Rattle.std.proofs.Common.{◌≡◌, Bool, true, false, not, refl, sym, arith}
use Rattle.queues.specs.Ports.{ports_in, inputs_in}
use Rattle.closing.proofs.ClosingLaws.{cycles_begun, cycles_more, cycles_idle}
use Rattle.closing.proofs.cycles.Goals as goal

pub loop-number-init : goal.loop-number-init
loop-number-init c q h = let a = c.args in
    let s = a.slot in
    cycles_begun s.crossbar q (ports_in s) (inputs_in s) s.number a.log.now a.at h

unmoved : (b : Bool) → not b ≡ true → b ≡ false
unmoved true h = sym h
unmoved false h = refl

pub returns-then-not-one : goal.returns-then-not-one
returns-then-not-one c q h = let a = c.args in
    let s = a.slot in
    let l = c.loop-number in
    cycles_idle s.crossbar q (ports_in s) (inputs_in s) s.number a.log.now a.at l.number h (l.invariant q h) c.one_cycle-one.ensures a.slot.speedup (omega arith) (omega arith) (unmoved c.one_cycle-one.result.moved c.if-not-one.true)

pub loop-number-preserved : goal.loop-number-preserved
loop-number-preserved c q h = let a = c.args in
    let s = a.slot in
    let l = c.loop-number in
    cycles_more s.crossbar q (ports_in s) (inputs_in s) s.number a.log.now a.at l.number h (l.invariant q h) c.one_cycle-one.ensures

pub returns : goal.returns
returns c q h = let a = c.args in
    let l = c.loop-number in
    let all : l.number ≡ a.slot.speedup = omega (arith, c.loop-number-test.false, l.auto.number-end) in
    rw all at (l.invariant q h)
