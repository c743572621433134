-- A search of the numbers below n finds the lowest that passes the test, and one of a list the first that does.
-- Assumes nothing.
use Rattle.std.proofs.Common.{ℕ, zero, suc, ◌≡◌, ◌<◌, ◌≤◌, Bool, true, false, List, [], ◌∷◌, length, get_or, Option, Some, None, MatchOption, refl, sym, ⊎_elim, arith}
use Rattle.std.specs.List.{find}
use Rattle.base.specs.Below.{lowest}
use Rattle.base.proofs.Lowest.{lowest_found, lowest_none}
use Rattle.base.proofs.Cases.{true_or_false}
use Rattle.queues.specs.Found.{FoundBelow}

pub found_lowest : (f : ℕ → Bool) (n : ℕ) (r : Option ℕ) → MatchOption r ((k : ℕ) → 0 ≤ k → k < n → f k ≡ false) (λ i. (0 ≤ i) × (i < n) × (f i ≡ true) × ((k : ℕ) → 0 ≤ k → k < i → f k ≡ false))
    → FoundBelow n (lowest f n) r
found_lowest f n None h = lowest_none f n (λ k l. h k (omega arith) l)
found_lowest f n (Some i) h = (sym (lowest_found f n i h.1 h.2 (λ k l. h.3 k (omega arith) l)), h.1)

either_way : {A B : Type 0} {P Q : ℕ → Type 0} (r : Option ℕ) → MatchOption r A P → (A → B) → ((x : ℕ) → P x → Q x) → MatchOption r B Q
either_way None h f g = f h
either_way (Some x) h f g = g x h

module _ (p : ℕ → Bool) where
  found_at : (xs : List ℕ) → MatchOption (find p xs) ((m : ℕ) → m < length xs → p (get_or xs m 0) ≡ false)
      (λ x. (u : ℕ) × (u < length xs) × (get_or xs u 0 ≡ x) × (p (get_or xs u 0) ≡ true) × ((m : ℕ) → m < u → p (get_or xs m 0) ≡ false))
  found_at [] = λ m h. absurd (omega arith)
  found_at (x ∷ xs) =
      ⊎_elim
      (λ (t : p x ≡ true). rw t (0, omega arith, refl, t, λ m h. absurd (omega arith)))
      (λ (t : p x ≡ false).
      rw t
      (either_way (find p xs) (found_at xs) (λ fails. later x xs t (length xs) fails)
      (λ y h. (suc h.0, omega (arith, h.1), h.2, h.3, later x xs t h.0 h.4))))
      (true_or_false (p x))
    where
      later : (x : ℕ) (xs : List ℕ) → p x ≡ false → (n : ℕ) → ((m : ℕ) → m < n → p (get_or xs m 0) ≡ false) → (m : ℕ) → m < suc n → p (get_or (x ∷ xs) m 0) ≡ false
      later x xs t n fails zero h = t
      later x xs t n fails (suc m) h = fails m (omega arith)

  -- the place of the first that passes, or the list's length where none does
  pub found_first : (xs : List ℕ) (r : Option ℕ) → r ≡ find p xs
      → MatchOption r (lowest (λ u. p (get_or xs u 0)) (length xs) ≡ length xs) (λ x. (lowest (λ u. p (get_or xs u 0)) (length xs) < length xs) × (get_or xs (lowest (λ u. p (get_or xs u 0)) (length xs)) 0 ≡ x))
  found_first xs r e =
      rw e
      (either_way (find p xs) (found_at xs) (λ fails. lowest_none (λ u. p (get_or xs u 0)) (length xs) fails)
      (λ y h.
      let same : lowest (λ u. p (get_or xs u 0)) (length xs) ≡ h.0 = lowest_found (λ u. p (get_or xs u 0)) (length xs) h.0 h.1 h.3 h.4 in
      rw same (h.1, h.2)))
