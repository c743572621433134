-- Sums of f 0, f 1, .. f (n - 1). All rest on one law: two functions that differ at one number only have sums that differ by as much. So a
-- store in a list changes the sum of its entries by what it stores.
-- Assumes nothing.
use Prim.Native.Nat.{ℕ, zero, suc, ◌+◌, ◌≤◌, ◌<◌}
use native.Mathlib.Nat.{not-suc-le-zero}
use native.Mathlib.Omega.{arith}
use mathlib.Core.Path.{◌≡◌, refl}
use mathlib.Core.Logic.{⊎_elim, ◌≢◌}
use mathlib.Core.List.{List}
use lib.ListN.{length, get_or, set}
use lib.Seq.{get_or-set_same, get_or-set_other}
use Rattle.base.specs.Below.{sum_below}
use Rattle.base.proofs.Below.{below_suc, sum_cong}
use Rattle.base.proofs.Order.{le_or_lt}

-- the sum of a list's entries below n
abbrev pub total : List ℕ → ℕ → ℕ
total l n = sum_below (λ i. get_or l i 0) n

pub sum_zero : (f : ℕ → ℕ) (n : ℕ) → ((k : ℕ) → k < n → f k ≡ 0) → sum_below f n ≡ 0
unfolding sum_below
sum_zero f zero z = refl
sum_zero f (suc n) z =
    let here = z n (omega arith) in
    let rest = sum_zero f n (λ k h. z k (omega arith)) in
    omega arith

-- an entry is at most the sum
pub sum_entry : (f : ℕ → ℕ) (n k : ℕ) → k < n → f k ≤ sum_below f n
unfolding sum_below
sum_entry f zero k h = absurd (not-suc-le-zero h)
sum_entry f (suc n) k h =
    below_suc n k h (λ l. let rest = sum_entry f n k l in omega arith) (λ e. rw e (omega arith))

-- a positive sum has a positive entry
pub sum_positive : (f : ℕ → ℕ) (n : ℕ) → 1 ≤ sum_below f n → (k : ℕ) × (k < n) × (1 ≤ f k)
unfolding sum_below
sum_positive f zero h = absurd (not-suc-le-zero h)
sum_positive f (suc n) h =
    ⊎_elim
    (λ (l : 1 ≤ f n). (n, omega arith, l))
    (λ (l : f n < 1). let rest = sum_positive f n (omega arith) in (rest.0, omega arith, rest.2))
    (le_or_lt 1 (f n))

-- a sum of 0 has no entry but 0
pub sum_nothing : (f : ℕ → ℕ) (n k : ℕ) → sum_below f n ≡ 0 → k < n → f k ≡ 0
sum_nothing f n k e h = omega (arith, sum_entry f n k h)

-- f and g differ at k only
pub sum_change : (f g : ℕ → ℕ) (n k : ℕ) → k < n → ((m : ℕ) → m ≢ k → g m ≡ f m) → sum_below g n + f k ≡ sum_below f n + g k
unfolding sum_below
sum_change f g zero k h e = absurd (not-suc-le-zero h)
sum_change f g (suc n) k h e =
    below_suc n k h
    (λ l. let rest = sum_change f g n k l e in let here = e n (omega arith) in omega arith)
    (λ s. let rest = sum_cong g f n (λ m l. e m (omega arith)) in rw s (omega arith))

pub sum_set : (l : List ℕ) (n k v : ℕ) → k < n → k < length l → total (set l k v) n + get_or l k 0 ≡ total l n + v
sum_set l n k v h i =
    let change = sum_change (λ m. get_or l m 0) (λ m. get_or (set l k v) m 0) n k h (λ m d. get_or-set_other l k m v 0 d) in
    let same = get_or-set_same l k v 0 i in
    omega arith
