-- What stands in its place in an accepted trace, when a trace is accepted, and the number of its refusal.
-- Assumes nothing.
use Prim.Native.Nat.{ℕ, ◌+◌, ◌*◌, ◌≤◌}
use native.Mathlib.Omega.{arith}
use mathlib.Core.Path.{◌≡◌, refl, sym, ap, ◌∙◌}
use mathlib.Core.Bool.{Bool, true, false}
use mathlib.Core.List.{List}
use lib.ListN.{length}
use borrow.Author.Tests.{eqb-true, leb-true, le-leb}
use Rattle.std.specs.Prelude.{Ok}
use Rattle.base.specs.Below.{sum_below}
use Rattle.base.specs.Digits.{byte}
use Rattle.base.specs.Refusal.{unless, ◌⨟◌, refusal_of}
use Rattle.base.proofs.Below.{both_true}
use Rattle.base.proofs.RefusalLaws.{unless_zero, chain_zero, goes_on, passed, clear, unless_small, chain_small, number_of_judged}
use Rattle.layout.specs.declared.Header.{Header}
use Rattle.layout.specs.declared.Places.{Places}
use Rattle.layout.specs.Header.{header_refusal, places_of}
use Rattle.layout.specs.Tables.{capacities_allowed, counts_add_up, ports_below, tables_refusal}
use Rattle.trace.specs.Reading.{half, word, header_of, capacity, slot_count, port_byte, places_right, body_refusal, reading, verdict}

-- the header's offsets and total, and the slice's length
pub record Right (s : List ℕ) (p : Places) : Type 0 where
  pub capacities : word s 24 ≡ 40
  pub counts : word s 28 ≡ p.counts
  pub arrivals : word s 32 ≡ p.arrivals
  pub total : word s 36 ≡ p.total
  pub length : length s ≡ p.total

pub right : (s : List ℕ) (p : Places) → places_right s p ≡ true → Right s p
unfolding places_right
right s p h =
    let a = both_true _ _ h in
    let b = both_true _ _ a.1 in
    let c = both_true _ _ b.1 in
    let d = both_true _ _ c.1 in
    record {
      capacities = eqb-true _ _ a.0;
      counts = eqb-true _ _ b.0;
      arrivals = eqb-true _ _ c.0;
      total = eqb-true _ _ d.0;
      length = eqb-true _ _ d.1;
    }

-- tables that stand in their places are judged where they stand
pub judged_in_place : (s : List ℕ) (h : Header) (p : Places) → places_right s p ≡ true → tables_refusal h (λ k. half s (40 + 2 * k)) (λ t. half s (p.counts + 2 * t)) (λ b. byte s (p.arrivals + b)) ≡ tables_refusal h (capacity s) (slot_count s) (port_byte s)
unfolding capacity slot_count port_byte
judged_in_place s h p r =
    let at = right s p r in
    λ i.
    tables_refusal h
    (λ k. half s (sym at.capacities i + 2 * k))
    (λ t. half s (sym at.counts i + 2 * t))
    (λ b. byte s (sym at.arrivals i + b))

-- a trace that nothing refuses
pub nothing_refused : (s : List ℕ) (h : Header) → header_of s ≡ h → 40 ≤ length s → header_refusal h ≡ 0 → body_refusal s h ≡ 0 → reading s ≡ 0
unfolding reading
nothing_refused s h e l z b =
    passed _ 1 _ (le-leb 40 (length s) l)
    ∙ ap (λ (h : Header). header_refusal h ⨟ body_refusal s h) e
    ∙ goes_on _ _ z
    ∙ b

-- reading's refusals are 1 to 11
pub reading_small : (s : List ℕ) → reading s ≤ 11
unfolding reading header_refusal body_refusal tables_refusal
reading_small s =
    let test = λ (b : Bool) (n : ℕ) (l : n ≤ 11). unless_small b n 11 l in
    let h = header_of s in
    let p = places_of h in
    chain_small _ _ 11 (test _ 1 (omega arith))
    (chain_small _ _ 11
    (chain_small _ _ 11 (test _ 2 (omega arith))
    (chain_small _ _ 11 (test _ 3 (omega arith))
    (chain_small _ _ 11 (test _ 4 (omega arith))
    (chain_small _ _ 11 (test _ 5 (omega arith))
    (chain_small _ _ 11 (test _ 6 (omega arith)) (test _ 7 (omega arith)))))))
    (chain_small _ _ 11 (test _ 8 (omega arith))
    (chain_small _ _ 11 (test _ 9 (omega arith))
    (chain_small _ _ 11 (test _ 10 (omega arith)) (test _ 11 (omega arith))))))

-- the verdict's number is the first refusal's
pub refusal_of_verdict : (s : List ℕ) → refusal_of (verdict s) ≡ reading s
unfolding verdict
refusal_of_verdict s = number_of_judged (reading s) (header_of s) (omega (arith, reading_small s))

-- what an accepted trace is known to have, by name
pub record Whole (s : List ℕ) : Type 0 where
  pub long : 40 ≤ length s
  pub header : header_refusal (header_of s) ≡ 0
  pub places : places_right s (places_of (header_of s)) ≡ true
  pub capacities : capacities_allowed (header_of s) (capacity s) ≡ true
  pub counts : sum_below (slot_count s) (header_of s).slots ≡ (header_of s).arrivals
  pub ports : ports_below (header_of s) (port_byte s) ≡ true

pub whole : (s : List ℕ) → reading s ≡ 0 → Whole s
unfolding reading body_refusal tables_refusal counts_add_up
whole s e =
    let one = chain_zero _ _ e in
    let two = chain_zero _ _ one.1 in
    let eight = chain_zero _ _ two.1 in
    let nine = chain_zero _ _ eight.1 in
    let ten = chain_zero _ _ nine.1 in
    record {
      long = leb-true 40 (length s) (unless_zero _ 0 one.0);
      header = two.0;
      places = unless_zero _ 7 eight.0;
      capacities = unless_zero _ 8 nine.0;
      counts = eqb-true _ _ (unless_zero _ 9 ten.0);
      ports = unless_zero _ 10 ten.1;
    }

-- only an accepted trace gets that verdict
pub accepted : (s : List ℕ) (h : Header) → verdict s ≡ Ok h → (reading s ≡ 0) × (h ≡ header_of s)
unfolding verdict
accepted s h e = clear _ _ _ (sym e)
