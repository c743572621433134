-- What tables that nothing refuses are known to hold, and that tables which agree at each place are judged alike.
-- Assumes nothing.
use Prim.Native.Nat.{ℕ, ◌*◌, ◌≤◌, ◌<◌}
use native.Mathlib.Omega.{arith}
use mathlib.Core.Path.{◌≡◌, ap}
use mathlib.Core.Bool.{true}
use lib.Dec.{leb, ltb, eqb}
use borrow.Author.Tests.{eqb-true, leb-true}
use Rattle.base.specs.Below.{sum_below}
use Rattle.base.specs.Refusal.{unless, ◌⨟◌}
use Rattle.base.proofs.Below.{both_true, all_at, all_cong, sum_cong}
use Rattle.base.proofs.RefusalLaws.{unless_zero, chain_zero}
use Rattle.base.proofs.Sums.{sum_entry}
use Rattle.layout.specs.declared.Header.{Header}
use Rattle.layout.specs.Header.{header_refusal, capacity_count}
use Rattle.layout.specs.Tables.{capacity_allowed, capacities_allowed, counts_add_up, ports_below, tables_refusal}
use Rattle.layout.proofs.HeaderLaws.{allowed}

capacity_small : (c : ℕ) → capacity_allowed c ≡ true → c ≤ 1024
unfolding capacity_allowed
capacity_small c e = leb-true c 1024 (both_true (leb 1 c) (leb c 1024) e).1

-- a table's entries are small: each capacity by its own test, and each count because all of them together are the arrivals
module _ (h : Header) (cap count port : ℕ → ℕ) (e : tables_refusal h cap count port ≡ 0) where
  pub capacities_small : (k : ℕ) → k < capacity_count h → cap k ≤ 1024
  unfolding tables_refusal capacities_allowed
  capacities_small k l =
      let nine = unless_zero _ 8 (chain_zero _ _ e).0 in
      capacity_small (cap k) (all_at (λ k. capacity_allowed (cap k)) (capacity_count h) nine k l)

  pub counts_small : header_refusal h ≡ 0 → (t : ℕ) → t < h.slots → count t ≤ 4096
  unfolding tables_refusal counts_add_up
  counts_small z t l =
      let ten : sum_below count h.slots ≡ h.arrivals = eqb-true _ _ (unless_zero _ 9 (chain_zero _ _ (chain_zero _ _ e).1).0) in
      let few = (allowed h z).arrivals in
      omega (arith, sum_entry count h.slots t l)

-- only the places that the header counts are judged
pub tables_alike : (h : Header) (cap cap' count count' port port' : ℕ → ℕ) → ((k : ℕ) → k < capacity_count h → cap k ≡ cap' k) → ((t : ℕ) → t < h.slots → count t ≡ count' t) → ((b : ℕ) → b < 2 * h.arrivals → port b ≡ port' b) → tables_refusal h cap count port ≡ tables_refusal h cap' count' port'
unfolding tables_refusal capacities_allowed counts_add_up ports_below
tables_alike h cap cap' count count' port port' caps counts ports =
    let nine = all_cong (λ k. capacity_allowed (cap k)) (λ k. capacity_allowed (cap' k)) (capacity_count h) (λ k l. ap capacity_allowed (caps k l)) in
    let ten = sum_cong count count' h.slots counts in
    let eleven = all_cong (λ b. ltb (port b) h.ports) (λ b. ltb (port' b) h.ports) (2 * h.arrivals) (λ b l. ap (λ (n : ℕ). ltb n h.ports) (ports b l)) in
    λ i. unless (nine i) 9 ⨟ unless (eqb (ten i) h.arrivals) 10 ⨟ unless (eleven i) 11
