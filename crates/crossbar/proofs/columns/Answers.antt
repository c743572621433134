-- `crossbar::columns` meets its contract.
-- Assumes nothing.
use Rattle.std.proofs.Common.{ℕ, ◌*◌, length, refl, sym, ap, ◌∙◌, arith}
use Rattle.std.specs.Slice.Iter.{chunks_exact_rest, chunks_exact_size}
use native.Mathlib.Nat.{not-suc-le-zero}
use lib.ListN.{get_or-replicate, length-append, length-drop}
use Rattle.crossbar.proofs.ColumnsLaws.{row_next, row_more, all_rows}
use Rattle.crossbar.proofs.columns.Goals as goal

pub returns-then-crosslen-ne256 : goal.returns-then-crosslen-ne256
returns-then-crosslen-ne256 c = λ i j h z. absurd (omega (arith, get_or-replicate {A = ℕ} 16 j 1 0 h))

pub loop-row-init : goal.loop-row-init
loop-row-init c =
    let i = c.into_iter-row-iterator.ensures.into_iter_gives in
    record {
      size = ap chunks_exact_size i ∙ c.chunks_exact-row-items.ensures.size;
      rest = ap chunks_exact_rest i ∙ c.chunks_exact-row-items.ensures.rest;
      long = refl;
      said = λ m j h. absurd (not-suc-le-zero h);
    }

pub add_row-requires : goal.add_row-requires
add_row-requires c =
    let l = c.loop-row in
    let s = c.in-Some.ensures.steps in
    (s.1.1 ∙ l.invariant.size, l.invariant.long)

pub loop-row-preserved : goal.loop-row-preserved
loop-row-preserved c =
    let a = c.args in
    let l = c.loop-row in
    let s = c.in-Some.ensures.steps in
    let p = row_next a.crosslen.now _ _ _ (length l.yielded) l.invariant.rest s.1.0 (s.1.1 ∙ l.invariant.size) in
    record {
      size = s.0 ∙ l.invariant.size;
      rest = rw length-append p.1;
      long = c.add_row.ensures.0;
      said = rw length-append (λ m j h w z. row_more a.crosslen.now l.bits (length l.yielded) l.invariant.said m j h w
          (let one = c.add_row.ensures.1 j w z in (one.0, sym (p.2 j w) ∙ one.1)));
    }

pub returns : goal.returns
returns c = let a = c.args in
    let l = c.loop-row in
    all_rows a.crosslen.now l.bits (length l.yielded) c.if-crosslen-ne256.false
    (omega (arith, c.in-None.ensures.steps.0, c.in-None.ensures.steps.1, l.invariant.size, ap length l.invariant.rest, length-drop (16 * length l.yielded) a.crosslen.now, c.if-crosslen-ne256.false)) l.invariant.said
