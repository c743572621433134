-- `closing::send` meets its contract.
-- Assumes nothing.
use mathlib.Core.Path.{sym, ◌∙◌}
use Rattle.queues.specs.Events.{sent_at}
use Rattle.closing.proofs.ClosingLaws.{sends_none, sends_one_lem}
use Rattle.closing.proofs.send.Goals as goal

pub returns-then-not-waits : goal.returns-then-not-waits
returns-then-not-waits c = let a = c.args in
    sends_none a.outlen.now a.slot a.j a.log.now a.at (sym c.waits.ensures ∙ c.if-not-waits.true)

pub returns : goal.returns
unfolding sent_at
returns c = let a = c.args in
    sends_one_lem a.outlen.now a.slot a.j a.log.now a.at (sym c.waits.ensures ∙ c.if-not-waits.false)
    c.leave.ensures c.word.ensures c.emit.ensures.0 c.emit.ensures.1
