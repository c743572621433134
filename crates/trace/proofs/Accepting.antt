-- When a trace is accepted, the other way round from `whole`: its header's numbers are allowed, its offsets, its total and its length
-- are what the numbers make them, and nothing refuses its tables.
-- Assumes nothing.
use Prim.Native.Nat.{ℕ, ◌≤◌}
use native.Mathlib.Omega.{arith}
use mathlib.Core.Path.{◌≡◌, refl, ◌∙◌}
use mathlib.Core.Bool.{Bool, true, false, ◌||◌, and-eq-true_iff}
use mathlib.Core.List.{List}
use lib.ListN.{length}
use lib.Dec.{eqb}
use borrow.Author.Tests.{eqb-true, eq-eqb}
use Rattle.base.proofs.RefusalLaws.{chain_zero, passed}
use Rattle.layout.specs.declared.Header.{Header}
use Rattle.layout.specs.declared.Places.{Places}
use Rattle.layout.specs.Header.{model_allowed, header_refusal, places_of, total_of, arrivals_at, slot_counts_at}
use Rattle.layout.specs.Tables.{tables_refusal}
use Rattle.trace.specs.Reading.{header_of, capacity, slot_count, port_byte, places_right, body_refusal, reading}
use Rattle.trace.proofs.ReadingLaws.{Right, nothing_refused}

-- a model is 1 or 2
pub model_small : (m : ℕ) → model_allowed m ≡ true → m ≤ 2
unfolding model_allowed
model_small m e = go (eqb m 1) refl e
  where
    go : (b : Bool) → eqb m 1 ≡ b → (b || eqb m 2) ≡ true → m ≤ 2
    go true one e = omega (arith, eqb-true m 1 one)
    go false one e = omega (arith, eqb-true m 2 e)

-- the other way round from `right`
pub places_right_lem : (s : List ℕ) (p : Places) → Right s p → places_right s p ≡ true
unfolding places_right
places_right_lem s p r =
    (and-eq-true_iff _ _).1 (
      eq-eqb _ _ r.capacities,
      (and-eq-true_iff _ _).1 (
        eq-eqb _ _ r.counts,
        (and-eq-true_iff _ _).1
            (eq-eqb _ _ r.arrivals, (and-eq-true_iff _ _).1 (eq-eqb _ _ r.total, eq-eqb _ _ r.length)),
      ),
    )

pub accepted_when : (s : List ℕ) (h : Header) → header_of s ≡ h → header_refusal h ≡ 0 → Right s (places_of h) → tables_refusal h (capacity s) (slot_count s) (port_byte s) ≡ 0 → reading s ≡ 0
unfolding body_refusal
accepted_when s h e z r t =
    let long : 40 ≤ length s = unfold places_of total_of arrivals_at slot_counts_at in omega (arith, r.length) in
    let body : body_refusal s h ≡ 0 = passed _ 8 _ (places_right_lem s (places_of h) r) ∙ t in
    nothing_refused s h e long z body

-- nothing refuses an accepted trace's tables
pub tables_passed : (s : List ℕ) → reading s ≡ 0 → tables_refusal (header_of s) (capacity s) (slot_count s) (port_byte s) ≡ 0
unfolding reading body_refusal
tables_passed s e = (chain_zero _ _ (chain_zero _ _ (chain_zero _ _ e).1).1).1
