-- What a header whose numbers are allowed is known to have, by name.
-- Assumes nothing.
use Prim.Native.Nat.{ℕ, ◌*◌, ◌≤◌, zero-le}
use native.Mathlib.Nat.{mul-le-mul}
use mathlib.Core.Path.{◌≡◌}
use mathlib.Core.Bool.{Bool, true, false, cond}
use native.Mathlib.Omega.{arith}
use lib.Dec.{leb}
use borrow.Author.Tests.{leb-true}
use Rattle.base.proofs.RefusalLaws.{unless_zero, chain_zero}
use Rattle.base.proofs.Below.{both_true}
use Rattle.layout.specs.declared.Header.{Header}
use Rattle.layout.specs.Header.{model_allowed, order_allowed, side_allowed, count_allowed, header_refusal, has_crosspoints, capacity_count, slot_counts_at, arrivals_at, total_of}

pub side_small : (n : ℕ) → side_allowed n ≡ true → (1 ≤ n) × (n ≤ 16)
unfolding side_allowed
side_small n h = let both = both_true (leb 1 n) (leb n 16) h in (leb-true 1 n both.0, leb-true n 16 both.1)

pub record Allowed (h : Header) : Type 0 where
  pub model : model_allowed h.model ≡ true
  pub order : h.order ≤ 2
  pub ports : (1 ≤ h.ports) × (h.ports ≤ 16)
  pub speedup : (1 ≤ h.speedup) × (h.speedup ≤ 16)
  pub slots : h.slots ≤ 4096
  pub arrivals : h.arrivals ≤ 4096

pub allowed : (h : Header) → header_refusal h ≡ 0 → Allowed h
unfolding header_refusal order_allowed count_allowed
allowed h e =
    let m = chain_zero _ _ e in
    let o = chain_zero _ _ m.1 in
    let n = chain_zero _ _ o.1 in
    let s = chain_zero _ _ n.1 in
    let t = chain_zero _ _ s.1 in
    record {
      model = unless_zero _ 1 m.0;
      order = leb-true _ _ (unless_zero _ 2 o.0);
      ports = side_small _ (unless_zero _ 3 n.0);
      speedup = side_small _ (unless_zero _ 4 s.0);
      slots = leb-true _ _ (unless_zero _ 5 t.0);
      arrivals = leb-true _ _ (unless_zero _ 6 t.1);
    }

-- 16 ports have 256 pairs
pub pairs : (h : Header) → header_refusal h ≡ 0 → (h.ports ≤ 16) × (h.ports * h.ports ≤ 256)
pairs h e = let p = (allowed h e).ports in (p.1, mul-le-mul p.1 p.1)

cond_small : (b : Bool) {n m : ℕ} → n ≤ m → cond b n 0 ≤ m
cond_small true h = h
cond_small false h = zero-le

-- no file is longer than 17,480 bytes, and the tables' places lie within it
pub places_small : (h : Header) → header_refusal h ≡ 0 → (slot_counts_at h ≤ 1096) × (arrivals_at h ≤ 9288) × (total_of h ≤ 17480)
unfolding total_of arrivals_at slot_counts_at capacity_count
places_small h e =
    let a = allowed h e in
    let n = pairs h e in
    let x : cond (has_crosspoints h.model) (h.ports * h.ports) 0 ≤ 256 = cond_small (has_crosspoints h.model) n.1 in
    omega arith
