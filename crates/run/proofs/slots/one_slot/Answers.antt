-- `run::slots::one_slot` meets its contract.
-- Assumes nothing.
use borrow.Author.Rules.{rules}
use mathlib.Core.Path.{refl}
use Rattle.layout.specs.Header.{has_crosspoints}
use Rattle.queues.specs.declared.Queues.{Queues}
use Rattle.queues.specs.Queues.{lengths}
use Rattle.slot_laws.proofs.Balance.{Sized}
use Rattle.run.proofs.SlotsLaws.{slot_left}
use Rattle.run.proofs.slots.one_slot.Goals as goal

pub returns : goal.returns
unfolding has_crosspoints lengths
returns c =
    let a = c.args in
    let p : Queues = c.take_all-took.new.q in
    let sized : Sized a.q.now = record { incap = search rules; outcap = search rules; crosscap = search rules; inlen = search rules; outlen = search rules; crosslen = search rules } in
    let l = c.close-next.ensures p (record { of_outcap = refl; of_crosscap = refl; of_inlen = refl; of_outlen = refl; of_crosslen = refl }) in
    slot_left (has_crosspoints a.header.model) a.q.now p a.header.order a.header.ports a.header.speedup a.slot a.part.now _ _ _ _ a.log.now _ _ a.at _ _ sized c.requires.1 c.requires.2 c.take_all-took.ensures l
