-- Sums over ports, and over pairs of ports, beyond what crate base has. One law does most of the work: where f k is at most g k at every place but a, the sum
-- of f is above the sum of g by no more than f a is above g a. It is said without a difference. Nothing here speaks of a switch.
-- Assumes nothing.
use Prim.Native.Nat.{ℕ, zero, suc, ◌+◌, ◌≤◌, ◌<◌}
use native.Mathlib.Decide.{ℕ_discrete}
use native.Mathlib.Omega.{arith}
use mathlib.Core.Path.{◌≡◌, refl, ap}
use mathlib.Core.Logic.{◌≢◌, by_cases}
use Rattle.base.specs.Below.{sum_below}
use Rattle.base.proofs.Sums.{sum_zero}

module _ (f g : ℕ → ℕ) where
  pub sum_le : (n : ℕ) → ((k : ℕ) → k < n → f k ≤ g k) → sum_below f n ≤ sum_below g n
  unfolding sum_below
  sum_le zero h = omega arith
  sum_le (suc n) h = omega (arith, sum_le n (λ k l. h k (omega arith)), h n (omega arith))

  pub sum_add : (n : ℕ) → sum_below (λ k. f k + g k) n ≡ sum_below f n + sum_below g n
  unfolding sum_below
  sum_add zero = refl
  sum_add (suc n) = omega (arith, sum_add n)

  pub sum_point : (n a : ℕ) → a < n → ((k : ℕ) → k < n → k ≢ a → f k ≤ g k) → sum_below f n + g a ≤ sum_below g n + f a
  unfolding sum_below
  sum_point zero a l h = omega arith
  sum_point (suc n) a l h = by_cases (ℕ_discrete n a)
      (λ e. omega (arith, sum_le n (λ k m. h k (omega arith) (omega arith)), ap f e, ap g e))
      (λ d. omega (arith, sum_point n a (omega arith) (λ k m. h k (omega arith)), h n (omega arith) d))

-- a sum of which only the part at a is not 0
pub sum_only : (f : ℕ → ℕ) (n a : ℕ) → a < n → ((k : ℕ) → k < n → k ≢ a → f k ≡ 0) → sum_below f n ≡ f a
sum_only f n a l h = omega (
  arith,
  sum_point f (λ k. 0) n a l (λ k m d. omega (arith, h k m d)),
  sum_point (λ k. 0) f n a l (λ k m d. omega arith),
  sum_zero (λ k. 0) n (λ k m. refl),
)

-- the sum over all pairs (i, j) with both below n
unfoldable pub sum2 : (ℕ → ℕ → ℕ) → ℕ → ℕ
sum2 f n = sum_below (λ i. sum_below (f i) n) n

pub sum2_zero : (f : ℕ → ℕ → ℕ) (n : ℕ) → ((i j : ℕ) → i < n → j < n → f i j ≡ 0) → sum2 f n ≡ 0
unfolding sum2
sum2_zero f n h = sum_zero (λ i. sum_below (f i) n) n (λ i l. sum_zero (f i) n (λ j m. h i j l m))

module _ (f g : ℕ → ℕ → ℕ) (n : ℕ) where
  pub sum2_le : ((i j : ℕ) → i < n → j < n → f i j ≤ g i j) → sum2 f n ≤ sum2 g n
  unfolding sum2
  sum2_le h = sum_le (λ i. sum_below (f i) n) (λ i. sum_below (g i) n) n (λ i l. sum_le (f i) (g i) n (λ j m. h i j l m))

  pub sum2_add : sum2 (λ i j. f i j + g i j) n ≡ sum2 f n + sum2 g n
  unfolding sum2
  sum2_add = simp sum_add

  pub sum2_point : (a b : ℕ) → a < n → b < n → ((i j : ℕ) → i < n → j < n → ¬ ((i ≡ a) × (j ≡ b)) → f i j ≤ g i j) → sum2 f n + g a b ≤ sum2 g n + f a b
  unfolding sum2
  sum2_point a b l m h = omega (
    arith,
    sum_point (λ i. sum_below (f i) n) (λ i. sum_below (g i) n) n a l (λ i il d. sum_le (f i) (g i) n (λ j jl. h i j il jl (λ e. d e.0))),
    sum_point (f a) (g a) n b m (λ j jl d. h a j l jl (λ e. d e.1)),
  )

pub sum2_only : (f : ℕ → ℕ → ℕ) (n a b : ℕ) → a < n → b < n → ((i j : ℕ) → i < n → j < n → ¬ ((i ≡ a) × (j ≡ b)) → f i j ≡ 0) → sum2 f n ≡ f a b
sum2_only f n a b l m h = omega (
  arith,
  sum2_point f (λ i j. 0) n a b l m (λ i j il jl d. omega (arith, h i j il jl d)),
  sum2_point (λ i j. 0) f n a b l m (λ i j il jl d. omega arith),
  sum2_zero (λ i j. 0) n (λ i j il jl. refl),
)
