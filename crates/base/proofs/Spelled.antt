-- Tables of numbers, k bytes each: entry i of a table that stands in a list reads back, and the table of the numbers that were read is
-- the bytes that they were read from. Both are the law of one number (`Digits`), at each entry.
-- Assumes nothing.
use Prim.Native.Nat.{ℕ, zero, suc, ◌+◌, ◌*◌, ◌^◌, ◌≤◌, ◌<◌}
use native.Mathlib.Nat.{not-suc-le-zero, le_of_suc-le-suc, mul-zero, mul-suc}
use native.Mathlib.Omega.{arith}
use mathlib.Core.Path.{◌≡◌, sym, ap, ap₂, ◌∙◌}
use mathlib.Core.List.{List, [], ◌∷◌, ◌++◌, append_assoc, append-nil}
use lib.ListN.{length, get_or, take, drop}
use lib.Seq.{drop-append-add, drop-drop, take-add}
use Rattle.base.specs.Below.{list_below}
use Rattle.base.specs.Digits.{byte, number, digits, spell}
use Rattle.base.proofs.Digits.{length_digits, spell_append, number_digits, digits_number}

-- entry i stands k × i bytes behind the table's start
drop_spell : (k : ℕ) (vs y : List ℕ) (i : ℕ) → i < length vs → drop (k * i) (spell k vs ++ y) ≡ digits k (get_or vs i 0) ++ (spell k (drop (suc i) vs) ++ y)
unfolding spell
drop_spell k [] y i h = absurd (not-suc-le-zero h)
drop_spell k (v ∷ vs) y zero h = rw mul-zero (append_assoc (digits k v) (spell k vs) y)
drop_spell k (v ∷ vs) y (suc i) h =
    let at : k * suc i ≡ length (digits k v) + k * i = omega (arith, mul-suc k i, length_digits k v) in
    ap₂ (λ (n : ℕ) (l : List ℕ). drop n l) at (append_assoc (digits k v) (spell k vs) y)
    ∙ drop-append-add (digits k v) (spell k vs ++ y) (k * i)
    ∙ drop_spell k vs y i (le_of_suc-le-suc h)

pub number_spell : (k : ℕ) (vs s : List ℕ) (p : ℕ) (y : List ℕ) → drop p s ≡ spell k vs ++ y → (i : ℕ) → i < length vs → get_or vs i 0 < 256 ^ k → number k s (p + k * i) ≡ get_or vs i 0
number_spell k vs s p y e i h small =
    number_digits k (get_or vs i 0) s (p + k * i) (spell k (drop (suc i) vs) ++ y)
    (sym (drop-drop (k * i) p s) ∙ ap (λ (l : List ℕ). drop (k * i) l) e ∙ drop_spell k vs y i h)
    small

pub spell_numbers : (k : ℕ) (s : List ℕ) (p n : ℕ) → ((q : ℕ) → byte s q < 256) → p + k * n ≤ length s → spell k (list_below (λ i. number k s (p + k * i)) n) ≡ take (k * n) (drop p s)
unfolding spell list_below
spell_numbers k s p zero b h = sym (ap (λ (m : ℕ). take m (drop p s)) (mul-zero k))
spell_numbers k s p (suc n) b h =
    let more = mul-suc k n in
    let before = spell_numbers k s p n b (omega arith) in
    let one = digits_number k s (p + k * n) b (omega arith) in
    spell_append k (list_below (λ i. number k s (p + k * i)) n) (number k s (p + k * n) ∷ [])
    ∙ ap₂ ◌++◌ before (append-nil _ ∙ one ∙ ap (λ (l : List ℕ). take k l) (sym (drop-drop (k * n) p s)))
    ∙ sym (take-add (k * n) k (drop p s))
    ∙ ap (λ (m : ℕ). take m (drop p s)) (sym more)
