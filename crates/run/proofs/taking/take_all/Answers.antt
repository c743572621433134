use Rattle.std.proofs.Common.{◌+◌, ◌<◌, length, get_or, [], ◌∷◌, arith, ap, ◌∙◌}
use lib.ListN.{length-append}
use Rattle.std.specs.Slice.Iter.{chunks_exact_rest, chunks_exact_size}
use Rattle.run.proofs.TakingLaws.{nothing_taken, one_dropped, pair_next, taken_more}
use Rattle.run.proofs.taking.take_all.Goals as goal

pub loop-pair-init : goal.loop-pair-init
loop-pair-init c =
    let i = c.into_iter-pair-iterator.ensures.into_iter_gives in
    record {
      size = ap chunks_exact_size i ∙ c.chunks_exact-pair-items.ensures.size;
      rest = ap chunks_exact_rest i ∙ c.chunks_exact-pair-items.ensures.rest;
      few = omega arith;
      taken = nothing_taken _ _ _ _ _;
    }

pub overflow_add-took : goal.overflow_add-took
overflow_add-took c =
    let l = c.loop-pair in
    let s = c.in-Some.ensures.steps in
    let p = pair_next c.args.part.now _ _ _ (length l.yielded) l.invariant.rest s.1.0 (s.1.1 ∙ l.invariant.size) in
    let one = one_dropped l.q c.args.slot (get_or c.in-Some.pair.now 0 0) (get_or c.in-Some.pair.now 1 0) in
    let dropped = c.take_one-one.ensures.of_dropped in
    let fits : l.took.dropped + c.take_one-one.result.dropped < 4294967296 = omega (arith, l.invariant.few, p.0, c.requires) in
    record { fits = fits }

pub loop-pair-preserved : goal.loop-pair-preserved
loop-pair-preserved c =
    let l = c.loop-pair in
    let a = c.args in
    let s = c.in-Some.ensures.steps in
    let p = pair_next a.part.now _ _ _ (length l.yielded) l.invariant.rest s.1.0 (s.1.1 ∙ l.invariant.size) in
    let few = one_dropped l.q a.slot (get_or c.in-Some.pair.now 0 0) (get_or c.in-Some.pair.now 1 0) in
    let one = c.take_one-one.ensures in
    let dropped = one.of_dropped in
    record {
      size = s.0 ∙ l.invariant.size;
      rest = rw length-append p.1;
      few = omega (arith, length-append l.yielded (c.in-Some.pair ∷ []), l.invariant.few);
      taken = rw length-append (taken_more a.q.now l.q _ a.slot a.part.now a.log.now l.log _ (length l.yielded) a.at l.took c.take_one-one.result l.invariant.taken
          (rw (p.2, p.3) at one));
    }
