-- Parts of a list whose ends are kept within it are the parts that `take` and `drop` name; and what stands from a place on, taken apart
-- and put together again.
-- Assumes nothing.
use Prim.Native.Nat.{ℕ, suc, ◌+◌, ◌-◌, ◌≤◌, ◌<◌, min}
use native.Mathlib.Nat.{add-zero}
use native.Mathlib.Numerals.{add-one}
use native.Mathlib.Omega.{arith}
use mathlib.Core.Path.{◌≡◌, sym, ap, ◌∙◌}
use mathlib.Core.Logic.{⊎_elim}
use mathlib.Core.List.{List, ◌∷◌, ◌++◌}
use lib.ListN.{length, get_or, take, drop, length-drop, take-append-drop, drop_of_length-le, get_or-eq_default}
use lib.Seq.{take_all, get_or-drop, drop-drop}
use Rattle.base.proofs.Order.{le_or_lt}

-- whoever takes a whole list takes the same
take_whole : (l : List ℕ) (a b : ℕ) → length l ≤ a → length l ≤ b → take a l ≡ take b l
take_whole l a b ha hb = take_all a l ha ∙ sym (take_all b l hb)

module _ (s : List ℕ) (p : ℕ) where
  pub get_d_kept : (q : ℕ) → get_or s (min p (length s) + q) 0 ≡ get_or s (p + q) 0
  get_d_kept q =
      ⊎_elim
      (λ (h : p ≤ length s). ap (λ (n : ℕ). get_or s (n + q) 0) (omega arith))
      (λ (h : length s < p). get_or-eq_default s 0 (omega arith) ∙ sym (get_or-eq_default s 0 (omega arith)))
      (le_or_lt p (length s))

  pub drop_kept : drop (min p (length s)) s ≡ drop p s
  drop_kept =
      ⊎_elim
      (λ (h : p ≤ length s). let e : min p (length s) ≡ p = omega arith in ap (λ (n : ℕ). drop n s) e)
      (λ (h : length s < p). drop_of_length-le s {i = min p (length s)} (omega arith) ∙ sym (drop_of_length-le s {i = p} (omega arith)))
      (le_or_lt p (length s))

  -- m elements from p on
  pub part_kept : (m : ℕ) → take (min (min p (length s) + m) (length s) - min p (length s)) (drop (min p (length s)) s) ≡ take m (drop p s)
  part_kept m =
      rw drop_kept
      (⊎_elim
      (λ (h : p + m ≤ length s).
      let e : min (min p (length s) + m) (length s) - min p (length s) ≡ m = omega arith in
      ap (λ (n : ℕ). take n (drop p s)) e)
      (λ (h : length s < p + m).
      let n : length (drop p s) ≡ length s - p = length-drop p s in
      take_whole (drop p s) (min (min p (length s) + m) (length s) - min p (length s)) m (omega arith) (omega arith))
      (le_or_lt (p + m) (length s)))

-- what stands from p on begins with the element at p, and what stands behind that follows
pub drop_first : (s : List ℕ) (p a : ℕ) (r : List ℕ) → drop p s ≡ a ∷ r → (get_or s p 0 ≡ a) × (drop (suc p) s ≡ r)
drop_first s p a r e =
    let first : get_or s (p + 0) 0 ≡ a = sym (get_or-drop p s 0 0) ∙ ap (λ (l : List ℕ). get_or l 0 0) e in
    let rest : drop (p + 1) s ≡ r = sym (drop-drop 1 p s) ∙ ap (λ (l : List ℕ). drop 1 l) e in
    (rw add-zero at first, rw add-one at rest)

-- what stands from p on is its first m and what stands behind those
pub part_then_rest : (s : List ℕ) (p m : ℕ) → take m (drop p s) ++ drop (p + m) s ≡ drop p s
part_then_rest s p m = ap (λ (l : List ℕ). take m (drop p s) ++ l) (sym (drop-drop m p s)) ∙ take-append-drop m (drop p s)
