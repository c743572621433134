use Rattle.std.proofs.Common.{◌+◌, ◌<◌, arith, refl, ap, ◌∙◌}
use Rattle.layout.specs.declared.Header.{Header}
use Rattle.trace.specs.Reading.{header_of}
use Rattle.trace.specs.Slots.{before, part_from}
use Rattle.base.specs.Below.{sum_below}
use Rattle.run.proofs.PassingLaws.{here_start, here_by, here_end, ports_few, drops_few, passed_few, start_next, part_few}
use Rattle.run.proofs.slots.all_slots.Goals as goal

pub loop-t-init : goal.loop-t-init
unfolding before sum_below
loop-t-init c = record { start = refl; here = here_start c.args.trace.now c.args.log.now c.args.new c.requires.2 }

pub one_slot-took-requires : goal.one_slot-took-requires
one_slot-took-requires c =
    let a = c.args in
    let pre = c.requires in
    let l = c.loop-t in
    let slots_are = ap (λ (h : Header). h.slots) pre.1 in
    let below : l.t < (header_of a.trace.now).slots = omega arith in
    let part = c.part_from-part.ensures ∙ ap (part_from a.trace.now l.t) l.invariant.start in
    (omega (arith, part_few a.trace.now pre.0 l.t below _ part), ports_few a.trace.now pre.0 a.header pre.1, c.turn-inputs.ensures)

pub overflow_add-end : goal.overflow_add-end
overflow_add-end c =
    let a = c.args in
    let pre = c.requires in
    let l = c.loop-t in
    let slots_are = ap (λ (h : Header). h.slots) pre.1 in
    let below : l.t < (header_of a.trace.now).slots = omega arith in
    let part = c.part_from-part.ensures ∙ ap (part_from a.trace.now l.t) l.invariant.start in
    let here = here_by a.trace.now pre.0 l.t below a.header _ _ _ _ _ _ _ _ _ pre.1 part l.invariant.here c.one_slot-took.ensures in
    let fits : l.end.dropped + c.one_slot-took.result.dropped < 4294967296 = omega (arith, here.of_dropped, drops_few a.trace.now pre.0 (l.t + 1) (omega arith)) in
    record { fits = fits }

pub overflow_add-start : goal.overflow_add-start
overflow_add-start c =
    let a = c.args in
    let pre = c.requires in
    let l = c.loop-t in
    let slots_are = ap (λ (h : Header). h.slots) pre.1 in
    let below : l.t < (header_of a.trace.now).slots = omega arith in
    let part = c.part_from-part.ensures ∙ ap (part_from a.trace.now l.t) l.invariant.start in
    let next = start_next a.trace.now pre.0 l.t below _ _ l.invariant.start part in
    let few = passed_few a.trace.now pre.0 (l.t + 1) (omega arith) in
    record { fits = omega arith }

pub loop-t-preserved : goal.loop-t-preserved
loop-t-preserved c =
    let a = c.args in
    let pre = c.requires in
    let l = c.loop-t in
    let slots_are = ap (λ (h : Header). h.slots) pre.1 in
    let below : l.t < (header_of a.trace.now).slots = omega arith in
    let part = c.part_from-part.ensures ∙ ap (part_from a.trace.now l.t) l.invariant.start in
    record {
      start = start_next a.trace.now pre.0 l.t below _ _ l.invariant.start part;
      here = here_by a.trace.now pre.0 l.t below a.header _ _ _ _ _ _ _ _ _ pre.1 part l.invariant.here c.one_slot-took.ensures;
    }

pub returns : goal.returns
returns c =
    let a = c.args in
    let l = c.loop-t in
    let slots_are = ap (λ (h : Header). h.slots) c.requires.1 in
    let here = here_end a.trace.now c.requires.0 l.t _ _ _ _ _ (omega arith) l.invariant.here in
    (here.of_queues, here.of_dropped, here.of_log, here.of_at)
