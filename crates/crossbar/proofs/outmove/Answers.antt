-- `crossbar::outmove` meets its contract.
-- Assumes nothing.
use Rattle.std.proofs.Common.{sym, ◌∙◌}
use Rattle.queues.specs.Ports.{inputs_in}
use Rattle.queues.specs.Queues.{place, waits}
use Rattle.queues.specs.Events.{outmoved_at}
use Rattle.queues.specs.Flow.{still}
use Rattle.queues.specs.Crossbar.{outmover}
use Rattle.queues.proofs.FoundLaws.{found_first}
use Rattle.crossbar.proofs.CrossbarLaws.{outmove_full, outmove_moves, outmove_stays}
use Rattle.crossbar.proofs.outmove.Goals as goal

pub returns-then-not-has_room : goal.returns-then-not-has_room
returns-then-not-has_room c = let a = c.args in
    let s = a.cycle.slot in
    rw c.none.ensures
    (outmove_full (inputs_in s) s.outcap.now a.crosslen.now a.outlen.now s.number a.cycle.number a.j (sym c.has_room.ensures ∙ c.if-not-has_room.true) a.log.now a.at)

pub returns-in_default : goal.returns-in_default
unfolding outmover still
returns-in_default c = let a = c.args in
    let s = a.cycle.slot in
    let found = rw (c.inputs.ensures, c.in_default.is) at (found_first (λ i. waits a.crosslen.now (place i a.j)) c.inputs.result.now c.outmover.result c.outmover.ensures) in
    rw c.none-in_default.ensures
    (outmove_stays (inputs_in s) s.outcap.now a.crosslen.now a.outlen.now s.number a.cycle.number a.j found a.log.now a.at)

pub returns : goal.returns
unfolding outmover still outmoved_at
returns c = let a = c.args in
    let s = a.cycle.slot in
    let found = rw (c.inputs.ensures, c.in-Some.is) at (found_first (λ i. waits a.crosslen.now (place i a.j)) c.inputs.result.now c.outmover.result c.outmover.ensures) in
    outmove_moves (inputs_in s) s.outcap.now a.crosslen.now a.outlen.now s.number a.cycle.number a.j (sym c.has_room.ensures ∙ c.if-not-has_room.false) found
    (rw (c.event-event.ensures, sym c.has_room.ensures ∙ c.if-not-has_room.false) at c.shift.ensures)
