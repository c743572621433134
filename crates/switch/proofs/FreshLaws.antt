-- A new switch of an accepted trace is allowed: its numbers are the header's, which reading has tested; each used place gets its capacity out of
-- the trace's table, where reading has tested that entry, and every other place 0; and nothing is held and nothing counted.
-- Assumes nothing.
use Prim.Native.Nat.{ℕ, suc, ◌+◌, ◌*◌, ◌/◌, ◌%◌, ◌<◌}
use native.Mathlib.Nat.{mul-le-mul_right, suc-mul}
use native.Mathlib.Omega.{arith}
use mathlib.Core.Path.{◌≡◌, refl}
use mathlib.Core.Bool.{Bool, true, false, cond}
use mathlib.Core.List.{List}
use lib.ListN.{get_or, replicate, length-replicate, get_or-replicate}
use lib.Dec.{leb, ltb}
use borrow.Author.Tests.{le-leb, ltb-true}
use Rattle.base.specs.Below.{list_below}
use Rattle.base.proofs.Below.{both_true, all_at, all_each}
use Rattle.base.proofs.Listed.{length_listed, listed_at}
use Rattle.base.proofs.Sums.{total, sum_zero}
use Rattle.layout.specs.Header.{order_allowed, has_crosspoints, capacity_count}
use Rattle.layout.specs.Tables.{capacity_allowed, capacities_allowed}
use Rattle.trace.specs.Reading.{header_of, capacity, reading}
use Rattle.layout.proofs.HeaderLaws.{allowed}
use Rattle.trace.proofs.ReadingLaws.{whole}
use Rattle.slot_laws.proofs.Balance.{Sized}
use Rattle.switch.specs.Switch.{packets, held_in, held_out, held_cross, held_all, held}
use Rattle.switch.specs.Allowed.{used_pair, queue_allowed, queues_allowed, switch_allowed}
use Rattle.switch.specs.Making.{capacity_of_pair, input_capacities, output_capacities, crosspoint_capacities, empty_queues, unused, fresh, nought}
use Rattle.switch.proofs.QueuesKept.{both, kind_allowed, cross_used, used_pair_lem, by_kinds}
use Rattle.switch.proofs.KeepsLaws.{allowed_by_parts}

-- an empty queue, at a used place with a capacity that is allowed, or at one that is not used
empty_queue : (used : Bool) (cap : ℕ) → (used ≡ true → capacity_allowed cap ≡ true) → queue_allowed used (cond used cap 0) 0 ≡ true
unfolding queue_allowed
empty_queue true cap ok = both (capacity_allowed cap) (leb 0 cap) (ok refl) (le-leb 0 cap (omega arith))
empty_queue false cap ok = refl

module _ (used : ℕ → Bool) (cap : ℕ → ℕ) (n : ℕ) where
  empty_kind : ((k : ℕ) → k < n → used k ≡ true → capacity_allowed (cap k) ≡ true)
      → kind_allowed used (list_below (λ k. cond (used k) (cap k) 0) n) (replicate n 0) n ≡ true
  empty_kind ok =
      all_each (λ k. queue_allowed (used k) (get_or (list_below (λ k. cond (used k) (cap k) 0) n) k 0) (get_or (replicate n 0) k 0)) n
      (λ k h. rw (listed_at (λ k. cond (used k) (cap k) 0) n k h, get_or-replicate {A = ℕ} n k 0 0 h) (empty_queue (used k) (cap k) (ok k h)))

zeros : (n : ℕ) → total (replicate n 0) n ≡ 0
zeros n = sum_zero (λ k. get_or (replicate n 0) k 0) n (λ k h. get_or-replicate {A = ℕ} n k 0 0 h)

-- the entry of a pair in a table of N × N
pub pair_entry : (ports k : ℕ) → k / 16 < ports → k % 16 < ports → k / 16 * ports + k % 16 < ports * ports
pair_entry ports k h l = omega (arith, mul-le-mul_right {m = suc (k / 16)} ports h, suc-mul (k / 16) ports)

module _ (s : List ℕ) (r : reading s ≡ 0) where
  pub capacity_tested : (k : ℕ) → k < capacity_count (header_of s) → capacity_allowed (capacity s k) ≡ true
  unfolding capacities_allowed
  capacity_tested k h = all_at (λ k. capacity_allowed (capacity s k)) (capacity_count (header_of s)) (whole s r).capacities k h

  input_tested : (k : ℕ) → used_pair (header_of s).ports k ≡ true → capacity_allowed (capacity_of_pair s (header_of s).ports 0 k) ≡ true
  unfolding capacity_of_pair capacity_count
  input_tested k u =
      let ports = (header_of s).ports in
      let used = used_pair_lem ports k u in
      capacity_tested (0 + (k / 16 * ports + k % 16)) (omega (arith, pair_entry ports k used.0 used.1))

  output_tested : (j : ℕ) → ltb j (header_of s).ports ≡ true → capacity_allowed (capacity s ((header_of s).ports * (header_of s).ports + j)) ≡ true
  unfolding capacity_count
  output_tested j u =
      let ports = (header_of s).ports in
      capacity_tested (ports * ports + j) (omega (arith, ltb-true j ports u))

  crosspoint_tested : (k : ℕ) → cross_used (header_of s).model (header_of s).ports k ≡ true
      → capacity_allowed (capacity_of_pair s (header_of s).ports ((header_of s).ports * (header_of s).ports + (header_of s).ports) k) ≡ true
  unfolding capacity_of_pair capacity_count
  crosspoint_tested k u =
      let ports = (header_of s).ports in
      let b = both_true (has_crosspoints (header_of s).model) (used_pair ports k) u in
      let used = used_pair_lem ports k b.1 in
      let table : cond (has_crosspoints (header_of s).model) (ports * ports) 0 ≡ ports * ports = rw b.0 in
      capacity_tested (ports * ports + ports + (k / 16 * ports + k % 16)) (omega (arith, pair_entry ports k used.0 used.1))

  fresh_queues : queues_allowed (fresh s).model (fresh s).ports (fresh s).queues ≡ true
  unfolding fresh unused empty_queues input_capacities output_capacities crosspoint_capacities
  fresh_queues =
      let model = (header_of s).model in
      let ports = (header_of s).ports in
      by_kinds model ports _
      (record {
        inputs = empty_kind (used_pair ports) (capacity_of_pair s ports 0) 256 (λ k h u. input_tested k u);
        outputs = empty_kind (λ j. ltb j ports) (λ j. capacity s (ports * ports + j)) 16 (λ j h u. output_tested j u);
        crosspoints = empty_kind (cross_used model ports) (capacity_of_pair s ports (ports * ports + ports)) 256 (λ k h u. crosspoint_tested k u);
      })

pub fresh_sized : (s : List ℕ) → Sized (fresh s).queues
unfolding fresh unused empty_queues input_capacities output_capacities crosspoint_capacities
fresh_sized s =
    record {
      incap = length_listed _ 256;
      outcap = length_listed _ 16;
      crosscap = length_listed _ 256;
      inlen = length-replicate {A = ℕ} 256 0;
      outlen = length-replicate {A = ℕ} 16 0;
      crosslen = length-replicate {A = ℕ} 256 0;
    }

-- where nothing has happened nothing is held
module _ (model order ports speedup : ℕ) (incap outcap crosscap : List ℕ) where
  unused_empty : held (unused model order ports speedup (empty_queues incap outcap crosscap)) ≡ 0
  unfolding unused empty_queues held held_all held_in held_out held_cross packets
  unused_empty = omega (arith, zeros 256, zeros 16)

pub fresh_empty : (s : List ℕ) → held (fresh s) ≡ 0
unfolding fresh
fresh_empty s = unused_empty _ _ _ _ _ _ _

pub nought_empty : held nought ≡ 0
unfolding nought
nought_empty = unused_empty _ _ _ _ _ _ _

pub fresh_allowed : (s : List ℕ) → reading s ≡ 0 → (switch_allowed (fresh s) ≡ true) × Sized (fresh s).queues
unfolding fresh unused held held_all order_allowed
fresh_allowed s r =
    let a = allowed (header_of s) (whole s r).header in
    let none = fresh_empty s in (
      allowed_by_parts (fresh s)
          (record {
            model = a.model;
            order = le-leb _ 2 a.order;
            ports = a.ports;
            speedup = a.speedup;
            queues = fresh_queues s r;
            few = omega arith;
            slot = omega arith;
            arrived = omega arith;
            crossed = omega arith;
            outmoved = omega arith;
          }),
      fresh_sized s,
    )
