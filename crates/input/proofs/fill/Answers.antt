-- `input::fill` meets its contract.
-- Assumes nothing.
use Rattle.std.proofs.Common.{◌≡◌, ℕ, ◌+◌, ◌≤◌, List, ◌++◌, rules, length, take, drop, sym, ap, ◌∙◌, subst, le_refl, drop_at, length-take-le}
use Rattle.std.proofs.lemmas.Slice.{take-put_mid_below}
use Rattle.std.specs.Io.KnownBytes.{Consumes}
use Rattle.std.proofs.KnownBytes.{Consumes-trans}
use borrow.Rule.Slice.PartMut.{put_mid, post_of}
use lib.Seq.{take-add, take-append-le}
use Rattle.input.proofs.fill.Goals as goal

-- what stood before, and behind it the first n of what was put there
take-put_mid : (a k n : ℕ) (xs ys : List ℕ) → a ≤ length xs → n ≤ length ys → take a xs ++ take n ys ≡ take (a + n) (put_mid a k xs ys)
take-put_mid a k n xs ys within fits =
    let new : List ℕ = put_mid a k xs ys in
    let front : take a new ≡ take a xs = take-put_mid_below _ _ _ _ _ (le_refl _) within in
    let behind : take n (drop a new) ≡ take n ys = ap (take n) (drop_at (take a xs) (ys ++ post_of a k xs) a (length-take-le a xs within)) ∙ take-append-le n ys (post_of a k xs) fits in
    sym (take-add a n new ∙ ap (λ (l : List ℕ). l ++ take n (drop a new)) front ∙ ap (λ (l : List ℕ). take a xs ++ l) behind)

pub loop-at-preserved : goal.loop-at-preserved
loop-at-preserved g c =
    let i = c.loop-at.invariant in
    record {
      within = search rules;
      long = search rules;
      bytes = subst (Consumes _ _) (take-put_mid _ _ _ _ _ i.within c.in-Ok.ensures.bound.0) (Consumes-trans _ _ _ _ _ i.bytes c.in-Ok.ensures.bytes.0);
    }
