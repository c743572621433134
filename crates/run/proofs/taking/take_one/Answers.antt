-- `run::taking::take_one` meets its contract.
-- Assumes nothing.
use mathlib.Core.Path.{sym, ◌∙◌}
use Rattle.queues.specs.Queues.{place, lengths}
use Rattle.queues.specs.Events.{accepted_at, dropped_at}
use Rattle.run.proofs.TakingLaws.{accepted_left, dropped_left}
use Rattle.run.proofs.taking.take_one.Goals as goal
use Rattle.run.proofs.taking.take_one.Goals.{then-has_room, else-has_room}

pub returns : goal.returns
unfolding place accepted_at dropped_at lengths
returns c =
    let a = c.args in
    elim c.if-has_room.branch [
      | then-has_room w ↦
          rw (w.q-is, w.kind-is)
          (accepted_left a.q.now a.slot a.input a.output _ a.log.now _ a.at _ _
          (rw c.place-k.ensures at (sym c.has_room.ensures ∙ w.if-has_room.true)) (rw c.place-k.ensures at w.join.ensures) (rw w.kind-is at c.word.ensures) c.emit.ensures.0 c.emit.ensures.1)
      | else-has_room w ↦
          rw (w.q-is, w.kind-is)
          (dropped_left a.q.now a.slot a.input a.output a.log.now _ a.at _ _
          (rw c.place-k.ensures at (sym c.has_room.ensures ∙ w.if-has_room.false)) (rw w.kind-is at c.word.ensures) c.emit.ensures.0 c.emit.ensures.1)
    ]
