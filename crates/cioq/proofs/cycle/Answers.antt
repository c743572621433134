-- `cioq::cycle` meets its contract.
-- Assumes nothing.
use Rattle.std.proofs.Common.{ℕ, ◌≡◌, List, length, get_or, ap, ◌∙◌, arith}
use Rattle.queues.specs.Ports.{ports_in, inputs_in}
use Rattle.cioq.proofs.CioqLaws.{upto_none, upto_more, upto_all}
use Rattle.cioq.proofs.cycle.Goals as goal

pub loop-i-init : goal.loop-i-init
loop-i-init c = let a = c.args in
    let s = a.cycle.slot in
    rw c.none-went.ensures (upto_none (ports_in s) (inputs_in s) s.outcap.now a.inlen.now a.outlen.now s.number a.cycle.number a.log.now a.at)

pub loop-i-preserved : goal.loop-i-preserved
loop-i-preserved c = let a = c.args in
    let s = a.cycle.slot in
    let l = c.loop-i in
    upto_more (ports_in s) (inputs_in s) s.outcap.now a.inlen.now a.outlen.now s.number a.cycle.number (omega arith) l.i-index _
    (ap (λ (xs : List ℕ). get_or xs l.i-index 0) c.inputs-i-items.ensures) l.invariant c.visit-went.ensures

pub returns : goal.returns
returns c = let a = c.args in
    let s = a.cycle.slot in
    let l = c.loop-i in
    upto_all (ports_in s) (inputs_in s) s.outcap.now a.inlen.now a.outlen.now s.number a.cycle.number l.i-index
    (let all : l.i-index ≡ length c.inputs-i-items.result.now = omega (arith, c.loop-i-test.false, l.auto.i-index-end) in all ∙ ap length c.inputs-i-items.ensures) l.invariant
