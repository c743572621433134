-- `switch::Switch::queues_closed` meets its contract.
-- Assumes nothing.
use borrow.Author.Rules.{rules}
use mathlib.Core.Path.{refl, ◌∙◌, ap}
use Rattle.layout.specs.Header.{has_crosspoints}
use Rattle.queues.specs.Turn.{turn}
use Rattle.queues.specs.Slot.{Done}
use Rattle.slot_laws.proofs.Balance.{Sized}
use Rattle.switch.proofs.SettlingLaws.{same_closing, closed_as}
use Rattle.switch.proofs.Switch.queues_closed.Goals as goal

pub returns : goal.returns
unfolding has_crosspoints
returns c = let a = c.args in
    let z : Sized a.self.now.queues = record { incap = c.requires.long; outcap = search rules; crosscap = search rules; inlen = search rules; outlen = search rules; crosslen = search rules } in
    let l = c.close.ensures a.self.now.queues (record { of_outcap = refl; of_crosscap = refl; of_inlen = refl; of_outlen = refl; of_crosslen = refl }) in
    let e = same_closing (has_crosspoints a.self.now.model) a.self.now.queues a.self.now.order a.self.now.ports a.self.now.speedup a.self.now.slot _ c.requires.few c.turn.ensures in
    closed_as (has_crosspoints a.self.now.model) a.self.now.queues a.self.now.ports (turn a.self.now.order a.self.now.ports a.self.now.slot) a.self.now.speedup a.self.now.slot _ _ _ z c.requires.few
    (l.of_inlen ∙ ap (λ (d : Done). d.queues.inlen) e) (l.of_outlen ∙ ap (λ (d : Done). d.queues.outlen) e) (l.of_crosslen ∙ ap (λ (d : Done). d.queues.crosslen) e)
