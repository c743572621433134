-- The lowest number below n that passes a test. Where it is below n it passes, and every lower number fails: these two facts, each an
-- induction over the numbers left to try, say all that there is to say, and the other laws follow from them by comparing numbers.
-- Assumes nothing.
use Prim.Native.Nat.{ℕ, zero, suc, ◌+◌, ◌≤◌, ◌<◌}
use native.Mathlib.Omega.{arith}
use mathlib.Core.Path.{◌≡◌, ◌∙◌}
use mathlib.Core.Logic.{⊎_elim}
use mathlib.Core.Bool.{Bool, true, false}
use Rattle.base.specs.Below.{lowest_from, lowest}
use Rattle.base.proofs.Cases.{true_or_false, not_both}
use Rattle.base.proofs.Order.{le_or_lt}

module _ (f : ℕ → Bool) where
  stops_here : (k n : ℕ) → f k ≡ true → lowest_from f k (suc n) ≡ k
  unfolding lowest_from
  stops_here k n e = rw (e, lowest_from)

  goes_on : (k n : ℕ) → f k ≡ false → lowest_from f k (suc n) ≡ lowest_from f (suc k) n
  unfolding lowest_from
  goes_on k n e = rw (e, lowest_from)

  from_bounds : (k n : ℕ) → (k ≤ lowest_from f k n) × (lowest_from f k n ≤ k + n)
  unfolding lowest_from
  from_bounds k zero = omega arith
  from_bounds k (suc n) =
      let rest = from_bounds (suc k) n in
      ⊎_elim
      (λ (e : f k ≡ true). rw (stops_here k n e) (omega arith))
      (λ (e : f k ≡ false). rw (goes_on k n e) (omega arith))
      (true_or_false (f k))

  from_passes : (k n : ℕ) → lowest_from f k n < k + n → f (lowest_from f k n) ≡ true
  unfolding lowest_from
  from_passes k zero h = absurd (omega arith)
  from_passes k (suc n) h =
      ⊎_elim
      (λ (e : f k ≡ true). rw (stops_here k n e) e)
      (λ (e : f k ≡ false). rw (goes_on k n e) (from_passes (suc k) n (let g = goes_on k n e in omega arith)))
      (true_or_false (f k))

  from_least : (k n m : ℕ) → k ≤ m → m < lowest_from f k n → f m ≡ false
  unfolding lowest_from
  from_least k zero m l h = absurd (omega arith)
  from_least k (suc n) m l h =
      ⊎_elim
      (λ (e : f k ≡ true). let s = stops_here k n e in absurd (omega arith))
      (λ (e : f k ≡ false).
      let g = goes_on k n e in
      ⊎_elim
      (λ (a : m ≤ k). let s : m ≡ k = omega arith in rw s e)
      (λ (a : k < m). from_least (suc k) n m a (omega arith))
      (le_or_lt m k))
      (true_or_false (f k))

  module _ (n : ℕ) where
    pub lowest_bound : lowest f n ≤ n
    unfolding lowest
    lowest_bound = omega (arith, from_bounds 0 n)

    -- where it is below n it passes
    pub lowest_passes : lowest f n < n → f (lowest f n) ≡ true
    unfolding lowest
    lowest_passes h = from_passes 0 n (omega arith)

    -- every lower number fails
    pub lowest_least : (k : ℕ) → k < lowest f n → f k ≡ false
    unfolding lowest
    lowest_least k h = from_least 0 n k (omega arith) h

    -- a number that passes is no lower
    pub lowest_first : (k : ℕ) → f k ≡ true → lowest f n ≤ k
    lowest_first k p =
        ⊎_elim (λ h. h) (λ (h : k < lowest f n). absurd (not_both p (lowest_least k h))) (le_or_lt (lowest f n) k)

    -- a number that passes, and below which all fail, is the lowest
    pub lowest_found : (k : ℕ) → k < n → f k ≡ true → ((m : ℕ) → m < k → f m ≡ false) → lowest f n ≡ k
    lowest_found k l p fails =
        let first = lowest_first k p in
        ⊎_elim
        (λ (h : k ≤ lowest f n). omega arith)
        (λ (h : lowest f n < k). absurd (not_both (lowest_passes (omega arith)) (fails (lowest f n) h)))
        (le_or_lt k (lowest f n))

    -- where all fail there is none
    pub lowest_none : ((m : ℕ) → m < n → f m ≡ false) → lowest f n ≡ n
    lowest_none fails =
        let bound = lowest_bound in
        ⊎_elim
        (λ (h : n ≤ lowest f n). omega arith)
        (λ (h : lowest f n < n). absurd (not_both (lowest_passes h) (fails (lowest f n) h)))
        (le_or_lt n (lowest f n))

    -- where there is none all fail
    pub none_passes : n ≤ lowest f n → (k : ℕ) → k < n → f k ≡ false
    none_passes h k l = lowest_least k (omega arith)

pub lowest_cong : (f g : ℕ → Bool) (n : ℕ) → ((k : ℕ) → k < n → f k ≡ g k) → lowest f n ≡ lowest g n
lowest_cong f g n e =
    let bound = lowest_bound g n in
    ⊎_elim
    (λ (h : n ≤ lowest g n). lowest_none f n (λ m l. e m l ∙ none_passes g n h m l) ∙ omega arith)
    (λ (h : lowest g n < n).
    lowest_found f n (lowest g n) h (e (lowest g n) h ∙ lowest_passes g n h) (λ m l. e m (omega arith) ∙ lowest_least g n m l))
    (le_or_lt n (lowest g n))
