-- `crossbar::cross` meets its contract.
-- Assumes nothing.
use Rattle.std.proofs.Common.{ap, ◌∙◌, refl, arith}
use Rattle.queues.specs.Ports.{ports_in}
use Rattle.queues.specs.Queues.{has_room}
use Rattle.queues.specs.Events.{crossed_at}
use Rattle.crossbar.proofs.CrossbarLaws.{room_there, cross_moves, cross_stays}
use Rattle.crossbar.proofs.cross.Goals as goal

pub returns-in_default : goal.returns-in_default
returns-in_default c = let a = c.args in
    let s = a.cycle.slot in
    rw c.none.ensures
    (cross_stays (ports_in s) s.crosscap.now a.inlen.now a.crosslen.now s.number a.cycle.number a.i _ refl (omega (arith, c.in_default.ensures)) a.log.now a.at)

pub returns : goal.returns
unfolding crossed_at
returns c = let a = c.args in
    let s = a.cycle.slot in
    let p = c.in-Some.ensures in
    let room =
    ap (has_room s.crosscap.now a.crosslen.now) c.place.ensures
    ∙ room_there (ports_in s) s.crosscap.now a.inlen.now a.crosslen.now s.number a.cycle.number a.i c.in-Some.j p.0 p.1
    in
    cross_moves (ports_in s) s.crosscap.now a.inlen.now a.crosslen.now s.number a.cycle.number a.i c.in-Some.j p.0 p.1 c.place.ensures
    (rw (c.event-event.ensures, room) at c.shift.ensures)
