-- `cioq::visit` meets its contract: where none will do all stays, and else the chosen output has room and the packet moves.
-- Assumes nothing.
use Rattle.std.proofs.Common.{ap, ◌∙◌, arith}
use Rattle.queues.specs.Ports.{ports_in}
use Rattle.queues.specs.declared.Event.{Event}
use Rattle.queues.specs.Queues.{place, has_room}
use Rattle.queues.specs.Events.{crossed_at}
use Rattle.queues.specs.Kinds.{as_event}
use Rattle.cioq.specs.Visit.{chosen}
use Rattle.cioq.proofs.VisitLaws.{chosen_room, shifted, moves}
use Rattle.cioq.proofs.visit.Goals as goal

pub returns : goal.returns
unfolding crossed_at
returns c = let a = c.args in
    let s = a.cycle.slot in
    let p = c.in-Some.ensures in
    let e = c.event-event.ensures in
    let room =
    ap (has_room s.outcap.now a.outlen.now) p.0
    ∙ chosen_room (ports_in s) s.outcap.now a.inlen.now a.outlen.now a.taken.now a.i (omega (arith, p.0, p.1))
    in
    moves (ports_in s) c.in-Some.j (chosen (ports_in s) s.outcap.now a.inlen.now a.outlen.now a.taken.now a.i) p.0 p.1
    (shifted (ap (λ (e : Event). place e.input e.output) e) (ap as_event e) (rw room at c.shift.ensures))
