-- Numbers as bytes: how two and four bytes read, that a number of k bytes reads back what its digits spell, and that the digits of
-- what was read are the bytes that were read. The last two are each one induction over the width.
-- Assumes nothing.
use Prim.Native.Nat.{ℕ, zero, suc, ◌+◌, ◌*◌, ◌/◌, ◌%◌, ◌^◌, ◌≤◌, ◌<◌, min}
use native.Mathlib.Numerals.{add-one, add-two}
use native.Mathlib.Omega.{arith}
use mathlib.Core.Path.{◌≡◌, refl, sym, ap, ap₂, ◌∙◌}
use mathlib.Core.Logic.{⊎_elim}
use mathlib.Core.List.{List, [], ◌∷◌, ◌++◌, append_assoc, append-nil}
use lib.ListN.{length, get_or, take, drop, length-append, get_or-eq_default}
use lib.Seq.{sets, take-suc, drop-cons, length-take-le}
use native.Mathlib.Nat.{add_comm, mul-zero, mul-suc, pow-suc, div-lt_iff_lt-mul}
use Rattle.base.specs.Digits.{byte, number, digits, spell}
use Rattle.base.proofs.Lists.{drop_first}
use Rattle.base.proofs.Order.{le_or_lt}
use Rattle.base.proofs.Sets.{sets_then}

pub number_two : (s : List ℕ) (p : ℕ) → number 2 s p ≡ byte s p + 256 * byte s (p + 1)
unfolding number
number_two s p = rw add-one (omega arith)

pub number_four : (s : List ℕ) (p : ℕ) → number 4 s p ≡ number 2 s p + 65536 * number 2 s (p + 2)
unfolding number
number_four s p = rw add-two (omega arith)

-- past the end every number reads as 0
pub number_past : (k : ℕ) (s : List ℕ) (p : ℕ) → length s ≤ p → number k s p ≡ 0
unfolding number
number_past zero s p h = refl
number_past (suc k) s p h =
    let tail : number k s (suc p) ≡ 0 = number_past k s (suc p) (omega arith) in
    omega (arith, get_or-eq_default s 0 h)

-- a place that is kept within the list reads the same
pub number_kept : (k : ℕ) (s : List ℕ) (p : ℕ) → number k s (min p (length s)) ≡ number k s p
number_kept k s p =
    ⊎_elim
    (λ (h : p ≤ length s). ap (λ (n : ℕ). number k s n) (omega arith))
    (λ (h : length s < p). number_past k s _ (omega arith) ∙ sym (number_past k s p (omega arith)))
    (le_or_lt p (length s))

pub length_digits : (k v : ℕ) → length (digits k v) ≡ k
unfolding digits
length_digits zero v = refl
length_digits (suc k) v = ap suc (length_digits k (v / 256))

pub length_spell : (k : ℕ) (vs : List ℕ) → length (spell k vs) ≡ k * length vs
unfolding spell
length_spell k [] = sym (mul-zero k)
length_spell k (v ∷ vs) =
    length-append (digits k v) (spell k vs) ∙ ap₂ ◌+◌ (length_digits k v) (length_spell k vs) ∙ add_comm k (k * length vs) ∙ sym (mul-suc k (length vs))

pub spell_append : (k : ℕ) (vs ws : List ℕ) → spell k (vs ++ ws) ≡ spell k vs ++ spell k ws
unfolding spell
spell_append k [] ws = refl
spell_append k (v ∷ vs) ws = rw (spell_append k vs ws, append_assoc)

-- storing a table, one number more
pub table_more : (w : ℕ) (l : List ℕ) (at : ℕ) (vs : List ℕ) (k : ℕ) → k < length vs → sets l at (spell w (take (k + 1) vs)) ≡ sets (sets l at (spell w (take k vs))) (at + w * k) (digits w (get_or vs k 0))
unfolding spell
table_more w l at vs k h =
    let n : length (take k vs) ≡ k = length-take-le k vs (omega arith) in
    rw (add-one, take-suc vs k 0 h, spell_append, sets_then, length_spell w (take k vs), n, append-nil)

-- the digits of a number that k bytes hold read back as it, wherever they stand
pub number_digits : (k v : ℕ) (s : List ℕ) (p : ℕ) (y : List ℕ) → drop p s ≡ digits k v ++ y → v < 256 ^ k → number k s p ≡ v
unfolding number digits
number_digits zero v s p y e h = omega arith
number_digits (suc k) v s p y e h =
    let at = drop_first s p (v % 256) (digits k (v / 256) ++ y) e in
    let small : v / 256 < 256 ^ k = (div-lt_iff_lt-mul {k = 256} (omega arith)).1 (rw pow-suc at h) in
    let rest : number k s (suc p) ≡ v / 256 = number_digits k (v / 256) s (suc p) y at.1 small in
    omega (arith, at.0)

-- the digits of the number that k bytes spell are those bytes
pub digits_number : (k : ℕ) (s : List ℕ) (p : ℕ) → ((q : ℕ) → byte s q < 256) → p + k ≤ length s → digits k (number k s p) ≡ take k (drop p s)
unfolding number digits
digits_number zero s p b h = refl
digits_number (suc k) s p b h =
    let n : ℕ = number k s (suc p) in
    let low : (byte s p + 256 * n) % 256 ≡ byte s p = omega (arith, b p) in
    let high : (byte s p + 256 * n) / 256 ≡ n = omega (arith, b p) in
    (λ i. low i ∷ digits k (high i))
    ∙ ap (λ (l : List ℕ). byte s p ∷ l) (digits_number k s (suc p) b (omega arith))
    ∙ sym (ap (λ (l : List ℕ). take (suc k) l) (drop-cons s p 0 (omega arith)))
