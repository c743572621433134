-- Counting ports and pairs by 0 and 1: each count is 1 at one place and 0 at every other, so its sum is 1; and a list of so many pairs, whose ports are
-- all below n, counts so many in all.
-- Assumes nothing.
use Prim.Native.Nat.{ℕ, zero, suc, ◌<◌}
use native.Mathlib.Decide.{ℕ_discrete}
use native.Mathlib.Nat.{zero-mul, mul-zero}
use native.Mathlib.Omega.{arith}
use mathlib.Core.Path.{◌≡◌, refl, ap, sym}
use mathlib.Core.Logic.{◌≢◌, ◌⊎◌, inl, inr, by_cases}
use mathlib.Core.List.{List, [], ◌∷◌, map}
use lib.ListN.{length}
use Rattle.base.specs.Below.{sum_below}
use Rattle.base.proofs.Sums.{sum_zero}
use Rattle.bound.specs.Switch.{Config, Pair, State, same, on, count}
use Rattle.bound.specs.Greedy.{along, Legal, AllLegal, none, more}
use Rattle.bound.proofs.Sums.{sum_add, sum_only, sum2, sum2_zero, sum2_add, sum2_only}

pub same_self : (a : ℕ) → same a a ≡ 1
unfolding same
same_self zero = refl
same_self (suc a) = same_self a

pub same_other : (a b : ℕ) → a ≢ b → same a b ≡ 0
unfolding same
same_other zero zero d = absurd (d refl)
same_other zero (suc b) d = refl
same_other (suc a) zero d = refl
same_other (suc a) (suc b) d = same_other a b (λ e. d (ap suc e))

pub on_self : (p : Pair) → on p p.input p.output ≡ 1
unfolding on
on_self p = simp same_self

pub on_other : (p : Pair) (i j : ℕ) → ¬ ((i ≡ p.input) × (j ≡ p.output)) → on p i j ≡ 0
unfolding on
on_other p i j d = by_cases (ℕ_discrete p.input i)
    (λ e. simp (same_other p.output j (λ f. d (sym e, sym f)), mul-zero))
    (λ e. simp (same_other p.input i e, zero-mul))

-- (i, j) is another pair than p, or it is p
pub on_cases : (p : Pair) (i j : ℕ) → (on p i j ≡ 0) ⊎ ((i ≡ p.input) × (j ≡ p.output))
on_cases p i j = by_cases (ℕ_discrete i p.input)
    (λ e. by_cases (ℕ_discrete j p.output) (λ f. inr (e, f)) (λ f. inl (on_other p i j (λ d. f d.1))))
    (λ e. inl (on_other p i j (λ d. e d.0)))

pub count_self : (a : ℕ) (l : List ℕ) → count l a ≡ 0 → count (a ∷ l) a ≡ 1
unfolding count
count_self a l h = omega (arith, same_self a)

pub count_other : (a k : ℕ) (l : List ℕ) → k ≢ a → count (a ∷ l) k ≡ count l k
unfolding count
count_other a k l d = omega (arith, same_other a k (λ e. d (sym e)))

sum_same : (n a : ℕ) → a < n → sum_below (same a) n ≡ 1
sum_same n a l = omega (arith, sum_only (same a) n a l (λ k m d. same_other a k (λ e. d (sym e))), same_self a)

sum2_on : (n : ℕ) (p : Pair) → p.input < n → p.output < n → sum2 (on p) n ≡ 1
sum2_on n p l m = omega (arith, sum2_only (on p) n p.input p.output l m (λ i j il jl d. on_other p i j d), on_self p)

module _ (c : Config) (g : State) where
  -- a matching has as many inputs, or outputs, as it has pairs
  pub sum_ports : (port : Pair → ℕ) → ((p : Pair) → Legal c g p → port p < c.ports) → (m : List Pair) → AllLegal c g m
      → sum_below (count (map port m)) c.ports ≡ length m
  unfolding count
  sum_ports port below [] none = sum_zero (λ k. 0) c.ports (λ k l. refl)
  sum_ports port below (p ∷ m) (more r e) = omega (
    arith,
    sum_add (same (port p)) (count (map port m)) c.ports,
    sum_same c.ports (port p) (below p r),
    sum_ports port below m e,
  )

  pub sum2_along : (m : List Pair) → AllLegal c g m → sum2 (along m) c.ports ≡ length m
  unfolding along
  sum2_along [] none = sum2_zero (λ i j. 0) c.ports (λ i j l k. refl)
  sum2_along (p ∷ m) (more r e) = omega (
    arith,
    sum2_add (on p) (along m) c.ports,
    sum2_on c.ports p r.input r.output,
    sum2_along m e,
  )
