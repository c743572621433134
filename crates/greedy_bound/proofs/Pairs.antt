-- The pairs that a cycle takes, as crate slot_laws and as the bound count them: by tests on numbers there, by 0 and 1 here. Each count is an induction over the
-- list.
-- Assumes nothing.
use Prim.Native.Nat.{ℕ, ◌*◌}
use native.Mathlib.Omega.{arith}
use mathlib.Core.Path.{◌≡◌, refl}
use mathlib.Core.Logic.{⊎_elim, ◌≢◌}
use mathlib.Core.Bool.{Bool, true, false, ◌&&◌, cond}
use mathlib.Core.List.{List, [], ◌∷◌, map, map-map}
use lib.Dec.{eqb}
use borrow.Author.Tests.{eq-eqb, ne_eqb}
use Rattle.base.proofs.Cases.{same_or_not}
use Rattle.slot_laws.proofs.Matchings.{inputs_of, outputs_of, occurs, times, Each, nothing, also}
use Rattle.bound.specs.Switch.{Config, Pair, ◌⇢◌, State, same, on, count}
use Rattle.bound.specs.Greedy.{inputs, outputs, along, Legal, AllLegal, none, more}
use Rattle.bound.proofs.Counts.{same_self, same_other}

-- the same pairs
abbrev pub paired : List (ℕ × ℕ) → List Pair
paired m = map (λ p. p.0 ⇢ p.1) m

-- the same test
same_test : (a b : ℕ) → same a b ≡ cond (eqb a b) 1 0
same_test a b =
    ⊎_elim
    (λ (e : a ≡ b). rw (eq-eqb a b e, e) (same_self b))
    (λ (d : a ≢ b). rw (ne_eqb a b d) (same_other a b d))
    (same_or_not a b)

both_tests : (s t : Bool) → cond s 1 0 * cond t 1 0 ≡ cond (s && t) 1 0
both_tests true true = refl
both_tests true false = refl
both_tests false true = refl
both_tests false false = refl

count_occurs : (l : List ℕ) (k : ℕ) → count l k ≡ occurs l k
unfolding count occurs
count_occurs [] k = refl
count_occurs (a ∷ l) k = omega (arith, same_test a k, count_occurs l k)

pub count_inputs : (m : List (ℕ × ℕ)) (i : ℕ) → count (inputs (paired m)) i ≡ occurs (inputs_of m) i
count_inputs m i = rw map-map (count_occurs (inputs_of m) i)

pub count_outputs : (m : List (ℕ × ℕ)) (j : ℕ) → count (outputs (paired m)) j ≡ occurs (outputs_of m) j
count_outputs m j = rw map-map (count_occurs (outputs_of m) j)

pub along_times : (m : List (ℕ × ℕ)) (i j : ℕ) → along (paired m) i j ≡ times m i j
unfolding along times on
along_times [] i j = refl
along_times (p ∷ m) i j =
    let here : same p.0 i * same p.1 j ≡ cond (eqb p.0 i && eqb p.1 j) 1 0 =
    rw (same_test p.0 i, same_test p.1 j) (both_tests (eqb p.0 i) (eqb p.1 j)) in
    omega (arith, along_times m i j)

-- what is true of each pair makes each legal
pub all_legal : (c : Config) (g : State) {P : ℕ → ℕ → Type 0} → ((i j : ℕ) → P i j → Legal c g (i ⇢ j)) → {m : List (ℕ × ℕ)} → Each P m → AllLegal c g (paired m)
all_legal c g legal nothing = none
all_legal c g legal (also {i = i} {j = j} p rest) = more {p = i ⇢ j} (legal i j p) (all_legal c g legal rest)
