-- `closing::sendings` meets its contract.
-- Assumes nothing.
use Rattle.std.proofs.Common.{refl, arith}
use Rattle.queues.specs.Events.{log_of}
use Rattle.queues.specs.Log.{logged, onward}
use Rattle.queues.specs.Slot.{sendings}
use Rattle.closing.proofs.ClosingLaws.{sendings_more, sendings_done}
use Rattle.closing.proofs.sendings.Goals as goal

pub loop-j-init : goal.loop-j-init
unfolding sendings log_of logged onward
loop-j-init c = record { of_outlen = refl; of_log = refl; of_at = refl }

pub loop-j-preserved : goal.loop-j-preserved
loop-j-preserved c = let a = c.args in
    let l = c.loop-j in
    sendings_more a.outlen.now a.slot l.j a.log.now a.at l.invariant c.send-next.ensures

pub returns : goal.returns
returns c = let a = c.args in
    let l = c.loop-j in
    sendings_done a.n l.j a.outlen.now a.slot (omega (arith, c.loop-j-test.false, l.auto.j-end)) l.invariant
