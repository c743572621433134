-- Queues that are all empty: as the code finds it, by one number that holds the bits of all of them, and what it says of each queue.
-- Assumes nothing.
use Prim.Native.Nat.{ℕ, zero, suc, ◌+◌, ◌≤◌, ◌<◌}
use native.Mathlib.Numerals.{add-one}
use native.Mathlib.Omega.{arith}
use mathlib.Core.Path.{◌≡◌, refl, sym, ap, ◌∙◌}
use mathlib.Core.Logic.{⊎_elim}
use mathlib.Core.Bool.{Bool, true, false, ◌&&◌}
use mathlib.Core.List.{List, [], ◌∷◌}
use lib.ListN.{length, get_or, take, drop, length-drop}
use lib.Seq.{take-suc, get_or-drop}
use Rattle.std.specs.List.{fold}
use Rattle.std.proofs.lemmas.List.Sums.{fold-append}
use lib.Bits.{bit_or, or_add_and, and_le_r}
use lib.Dec.{eqb, ltb}
use borrow.Author.Tests.{eqb-true, eqb-false, ne_eqb}
use Rattle.base.specs.Below.{all_below}
use Rattle.base.proofs.Below.{both_true, all_at}
use Rattle.base.proofs.Cases.{true_or_false}
use Rattle.queues.specs.Queues.{place, waits}
use Rattle.queues.specs.Empty.{row_empty}

-- no bit is set in two numbers together where none is set in either
neither : (a b : ℕ) → eqb (bit_or a b) 0 ≡ (eqb a 0 && eqb b 0)
neither a b =
    ⊎_elim
    (λ (t : eqb a 0 ≡ true). let e : a ≡ 0 = eqb-true a 0 t in rw e)
    (λ (t : eqb a 0 ≡ false).
    let some : eqb (bit_or a b) 0 ≡ false = ne_eqb (bit_or a b) 0 (λ q. eqb-false a 0 t (omega (arith, or_add_and a b, and_le_r a b))) in
    rw (some, t))
    (true_or_false (eqb a 0))

-- no queue yet, and one queue more
module _ (f : ℕ → ℕ) where
  pub none_yet : eqb 0 0 ≡ all_below (λ k. eqb (f k) 0) 0
  unfolding all_below
  none_yet = refl

  pub none_more : (k a : ℕ) → eqb a 0 ≡ all_below (λ k. eqb (f k) 0) k → eqb (bit_or a (f k)) 0 ≡ all_below (λ k. eqb (f k) 0) (k + 1)
  unfolding all_below
  none_more k a h = rw add-one (neither a (f k) ∙ ap (λ (t : Bool). t && eqb (f k) 0) h)

-- the bits of the first k numbers of a list, which are the numbers f 0, f 1 and so on
pub none_of : (f : ℕ → ℕ) (xs : List ℕ) → ((j : ℕ) → j < length xs → get_or xs j 0 ≡ f j) → (k : ℕ) → k ≤ length xs
    → eqb (fold bit_or 0 (take k xs)) 0 ≡ all_below (λ j. eqb (f j) 0) k
none_of f xs e zero h = none_yet f
none_of f xs e (suc k) h =
    let before = none_of f xs e k (omega arith) in
    ap (λ (ys : List ℕ). eqb (fold bit_or 0 ys) 0) (take-suc xs k 0 (omega arith))
    ∙ ap (λ (a : ℕ). eqb a 0) (fold-append bit_or 0 (take k xs) (get_or xs k 0 ∷ []))
    ∙ ap (λ (x : ℕ). eqb (bit_or (fold bit_or 0 (take k xs)) x) 0) (e k (omega arith))
    ∙ rw (sym (add-one k)) (none_more f k (fold bit_or 0 (take k xs)) before)

-- the bits of the queues of an input
pub none_of_row : (l : List ℕ) (i p n : ℕ) → p ≡ place i 0 → p + 16 ≤ length l → n ≡ 16 → eqb (fold bit_or 0 (take n (drop p l))) 0 ≡ all_below (λ j. eqb (get_or l (place i j) 0) 0) 16
unfolding place
none_of_row l i p n e h m =
    rw m
    (none_of (λ j. get_or l (place i j) 0) (drop p l) (λ j h. get_or-drop p l j 0 ∙ ap (λ (q : ℕ). get_or l q 0) (omega arith)) 16 (omega (arith, length-drop p l)))

-- no packet of the input waits
pub row_none : (l : List ℕ) (i : ℕ) → row_empty l i ≡ true → (j : ℕ) → j < 16 → waits l (place i j) ≡ false
unfolding row_empty waits
row_none l i t j h =
    let f : ℕ → Bool = λ j. eqb (get_or l (place i j) 0) 0 in
    let all = (both_true (ltb i 16) (all_below f 16) (both_true (eqb (length l) 256) (ltb i 16 && all_below f 16) t).1).1 in
    rw (eqb-true (get_or l (place i j) 0) 0 (all_at f 16 all j h))
