-- What a loop that counts up, or `all` over a range, knows of the tests and sums of `Below`: one step more, and what one place says of the
-- whole.
-- Assumes nothing.
use Prim.Native.Nat.{ℕ, zero, suc, ◌+◌, ◌≤◌, ◌<◌}
use native.Mathlib.Numerals.{add-one}
use native.Mathlib.Nat.{not-suc-le-zero, eq-or-lt_of_le, le_of_suc-le-suc}
use native.Mathlib.Omega.{arith}
use mathlib.Core.Path.{◌≡◌, refl, sym, ap₂, ◌∙◌, subst}
use mathlib.Core.Logic.{⊎_elim}
use mathlib.Core.Bool.{Bool, true, false, ◌&&◌, and-false}
use mathlib.Core.List.{List}
use lib.ListN.{length, get_or}
use denote.Param.Members.{Mut, Called}
use Rattle.std.specs.Prelude.{Option, MatchOption, MatchBool}
use Rattle.std.specs.Iterator.{YieldsThen}
use Rattle.std.specs.List.{FoldsTo, range_with_len, AllWithin, HoldsAt}
use Rattle.std.specs.declared.ops.Range.{Range}
use Rattle.std.proofs.iter.Yields.{nat_range_steps}
use Rattle.std.proofs.lemmas.Iterator.{YieldsList-from_range, cases_from_all}
use Rattle.std.proofs.lemmas.List.FromFn.{length-range_with_len, get_or-range_with_len}
use Rattle.base.specs.Below.{all_below, sum_below}

pub both_true : (a b : Bool) → (a && b) ≡ true → (a ≡ true) × (b ≡ true)
both_true true b h = (refl, h)
both_true false b h = let z : ◌≡◌ {A = Bool} false true = h in (z, cc)

-- two tests joined as code joins them, from what is known of each
pub joined : {r a a' b b' : Bool} → r ≡ (a && b) → a ≡ a' → b ≡ b' → r ≡ (a' && b')
joined e x y = e ∙ ap₂ ◌&&◌ x y

-- a number below suc n is below n or is n
pub below_suc : {C : Type 0} (n k : ℕ) → k < suc n → (k < n → C) → (k ≡ n → C) → C
below_suc n k h less same = ⊎_elim same less (eq-or-lt_of_le (le_of_suc-le-suc h))

module _ (f : ℕ → Bool) where
  pub all_none : all_below f 0 ≡ true
  unfolding all_below
  all_none = refl

  pub all_more : (n : ℕ) → all_below f n ≡ true → f n ≡ true → all_below f (n + 1) ≡ true
  unfolding all_below
  all_more n a b = rw (add-one, a, b)

  -- a loop that is left at its end has tested all
  pub all_done : (n k : ℕ) → k ≤ n → n ≤ k → all_below f k ≡ true → all_below f n ≡ true
  all_done n k h l a = let e : k ≡ n = omega arith in rw e at a

  pub all_each : (n : ℕ) → ((k : ℕ) → k < n → f k ≡ true) → all_below f n ≡ true
  unfolding all_below
  all_each zero e = refl
  all_each (suc n) e = rw (all_each n (λ k h. e k (omega arith)), e n (omega arith))

  pub all_at : (n : ℕ) → all_below f n ≡ true → (k : ℕ) → k < n → f k ≡ true
  unfolding all_below
  all_at zero a k h = absurd (not-suc-le-zero h)
  all_at (suc n) a k h =
      let both = both_true (all_below f n) (f n) a in
      below_suc n k h (λ l. all_at n both.0 k l) (λ e. rw e both.1)

  pub all_fails : (n k : ℕ) → k < n → f k ≡ false → all_below f n ≡ false
  unfolding all_below
  all_fails zero k h b = absurd (not-suc-le-zero h)
  all_fails (suc n) k h b =
      below_suc n k h
      (λ l. rw (all_fails n k l b))
      (λ e. let z : f n ≡ false = subst (λ (m : ℕ). f m ≡ false) e b in rw (z, and-false))

pub all_cong : (f g : ℕ → Bool) (n : ℕ) → ((k : ℕ) → k < n → f k ≡ g k) → all_below f n ≡ all_below g n
unfolding all_below
all_cong f g zero e = refl
all_cong f g (suc n) e = rw (all_cong f g n (λ k h. e k (omega arith)), e n (omega arith))

pub sum_none : (f : ℕ → ℕ) → sum_below f 0 ≡ 0
unfolding sum_below
sum_none f = refl

pub sum_more : (f : ℕ → ℕ) (n : ℕ) → sum_below f (n + 1) ≡ sum_below f n + f n
unfolding sum_below
sum_more f n = rw add-one

pub sum_done : (f : ℕ → ℕ) (n k x : ℕ) → k ≤ n → n ≤ k → x ≡ sum_below f k → x ≡ sum_below f n
sum_done f n k x h l a = let e : k ≡ n = omega arith in rw e at a

pub sum_cong : (f g : ℕ → ℕ) (n : ℕ) → ((k : ℕ) → k < n → f k ≡ g k) → sum_below f n ≡ sum_below g n
unfolding sum_below
sum_cong f g zero e = refl
sum_cong f g (suc n) e = rw (sum_cong f g n (λ k h. e k (omega arith)), e n (omega arith))

-- the answer of `all` over the numbers below n, where the closure tests each of them by f
module _ {F : Type 0} {g : Mut F (ℕ × Unit {0}) Bool} (f : ℕ → Bool) (n : ℕ) (u : Range ℕ) (p : F) (r : Bool) where
  pub all_from_range : (xs : List ℕ) × (o : Option ℕ) × (j : F) × YieldsThen nat_range_steps (record { start = 0; end = n }) xs o u × FoldsTo (λ p x q. Called g p (x, tt) true q) p xs j × MatchOption o (r ≡ true) (λ x. (r ≡ false) × ((h : F) × Called g j (x, tt) false h))
      → ((x : ℕ) (b : Bool) (q : F) → Called g p (x, tt) b q → (q ≡ p) × (x < n → b ≡ f x))
      → r ≡ all_below f n
  all_from_range d call =
      told r
      (cases_from_all u p r (λ x. x < n → f x ≡ true) (λ x. x < n → f x ≡ false) d (YieldsList-from_range 0 n n refl (omega arith))
      (λ x q c. let h = call x true q c in (h.0, λ l. sym (h.1 l))) (λ x q c l. sym ((call x false q c).1 l)))
    where
      long : length (range_with_len 0 n) ≡ n
      long = length-range_with_len 0 n

      at : (k : ℕ) → k < n → get_or (range_with_len 0 n) k 0 ≡ k
      at k l = get_or-range_with_len 0 n k 0 l ∙ omega arith

      told : (r : Bool)
          → MatchBool r (AllWithin (λ x. x < n → f x ≡ true) (range_with_len 0 n) 0 (length (range_with_len 0 n)))
          ((k : ℕ) × (k < length (range_with_len 0 n)) × HoldsAt (λ x. x < n → f x ≡ false) (range_with_len 0 n) k)
          → r ≡ all_below f n
      told true h = sym (all_each f n (λ k l. subst (λ (x : ℕ). x < n → f x ≡ true) (at k l) (h k 0 (omega arith) (omega (arith, long))) l))
      told false h =
          let l : h.0 < n = omega (arith, long, h.1) in
          sym (all_fails f n h.0 l (subst (λ (x : ℕ). x < n → f x ≡ false) (at h.0 l) (h.2 0) l))
