-- The lists of `Below`: as long as what they count to, each entry what it lists at that place, and so equal to every list that is as
-- long and has those entries. A list of a run of bytes is that part of the bytes, and
-- what `from_fn` makes is the list of its closure.
-- Assumes nothing.
use Prim.Native.Nat.{ℕ, zero, suc, ◌+◌, ◌≤◌, ◌<◌}
use native.Mathlib.Nat.{not-suc-le-zero}
use native.Mathlib.Numerals.{add-one}
use native.Mathlib.Omega.{arith}
use mathlib.Core.Path.{◌≡◌, refl, sym, ap, ◌∙◌}
use mathlib.Core.List.{List, [], ◌∷◌}
use mathlib.Core.Logic.{⊎_elim}
use denote.Param.Members.{Mut, Called}
use Rattle.std.specs.Array.{IsFromFnResult, IsFromFnResultFrom}
use lib.ListN.{length, get_or, set, take, drop, length-append, length-drop, length-set, replicate, length-replicate, get_or-replicate, get_or-append}
use borrow.Author.Count.{below_more}
use lib.Seq.{ext_get_or, get_or-set_same, get_or-set_other, get_or_at, get_or-take, get_or-drop, length-take-le}
use Rattle.base.specs.Below.{list_below}
use Rattle.base.specs.Digits.{byte}
use Rattle.base.proofs.Below.{below_suc}
use Rattle.base.proofs.Order.{le_or_lt}

module _ (f : ℕ → ℕ) where
  pub length_listed : (n : ℕ) → length (list_below f n) ≡ n
  unfolding list_below
  length_listed zero = refl
  length_listed (suc n) = length-append (list_below f n) (f n ∷ []) ∙ ap (λ (m : ℕ). m + 1) (length_listed n) ∙ add-one n

  pub listed_at : (n k : ℕ) → k < n → get_or (list_below f n) k 0 ≡ f k
  unfolding list_below
  listed_at zero k h = absurd (not-suc-le-zero h)
  listed_at (suc n) k h =
      let long = length_listed n in
      below_suc n k h
      (λ l. get_or-append (list_below f n) (f n ∷ []) 0 k (omega arith) ∙ listed_at n k l)
      (λ e. get_or_at (list_below f n) (f n) [] 0 k (long ∙ sym e) ∙ ap f (sym e))

  pub listed_is : (n : ℕ) (l : List ℕ) → length l ≡ n → ((k : ℕ) → k < n → f k ≡ get_or l k 0) → list_below f n ≡ l
  listed_is n l e at =
      let long = length_listed n in
      ext_get_or 0 (list_below f n) l (long ∙ sym e)
      (λ k h. let less : k < n = omega arith in listed_at n k less ∙ at k less)

pub listed_bytes : (s : List ℕ) (p n : ℕ) → p + n ≤ length s → list_below (λ b. byte s (p + b)) n ≡ take n (drop p s)
listed_bytes s p n h =
    let fits : n ≤ length (drop p s) = omega (arith, length-drop p s) in
    listed_is (λ b. byte s (p + b)) n (take n (drop p s)) (length-take-le n (drop p s) fits)
    (λ k l. sym (get_or-take n (drop p s) k 0 l ∙ get_or-drop p s k 0))

-- an array that a loop fills from its start
module _ (f : ℕ → ℕ) (n : ℕ) where
  pub fill_more : (l : List ℕ) (k v : ℕ) → k < n → length l ≡ n → ((m : ℕ) → m < k → get_or l m 0 ≡ f m) → v ≡ f k → (length (set l k v) ≡ n) × ((m : ℕ) → m < k + 1 → get_or (set l k v) m 0 ≡ f m)
  fill_more l k v h e filled here = (
    length-set l k v ∙ e,
    below_more (λ m. get_or (set l k v) m 0 ≡ f m) k
        (λ m less. get_or-set_other l k m v 0 (omega arith) ∙ filled m less)
        (get_or-set_same l k v 0 (omega arith) ∙ here),
  )

  pub fill_done : (l : List ℕ) (k : ℕ) → n ≤ k → length l ≡ n → ((m : ℕ) → m < k → get_or l m 0 ≡ f m) → l ≡ list_below f n
  fill_done l k h e filled = sym (listed_is f n l e (λ m less. sym (filled m (omega arith))))

-- an array that `from_fn` made is the list of what its closure gives: each call gives f of its place, and keeps what the next call needs
module _ {F : Type 0} (g : Mut F (ℕ × Unit {0}) ℕ) (f : ℕ → ℕ) (Keeps : F → Type 0) (call : (p : F) (i y : ℕ) (q : F) → Keeps p → Called g p (i, tt) y q → (y ≡ f i) × Keeps q) where
  each_call : (ys : List ℕ) (n i : ℕ) (p : F) → Keeps p → IsFromFnResultFrom g p ys i n → (k : ℕ) → i ≤ k → k < i + n → f k ≡ get_or ys k 0
  each_call ys zero i p keeps r k a b = absurd (omega arith)
  each_call ys (suc n) i p keeps r k a b =
      let one = call p i r.1 r.0 keeps r.3 in
      ⊎_elim
      (λ (l : k ≤ i). let e : i ≡ k = omega arith in rw (← e) (sym (r.2.1 0 ∙ one.0)))
      (λ (l : i < k). each_call ys n (i + 1) r.0 one.1 r.4 k (omega arith) (omega arith))
      (le_or_lt k i)

  pub from_fn_listed : (ys : List ℕ) (n : ℕ) (p : F) → Keeps p → IsFromFnResult g p ys n → ys ≡ list_below f n
  from_fn_listed ys n p keeps r = sym (listed_is f n ys r.long (λ k l. each_call ys n 0 p keeps r.each k (omega arith) (omega arith)))

pub listed_zeros : (n : ℕ) → list_below (λ k. 0) n ≡ replicate n 0
listed_zeros n = listed_is (λ k. 0) n (replicate n 0) (length-replicate n 0) (λ k h. sym (get_or-replicate n k 0 0 h))
