-- What queues that are allowed are known to have, and that they stay allowed. A queue that is allowed is not above its capacity, whether its
-- place is used or not; and with another length it is allowed exactly as long as that too is not above the capacity. So a step that keeps
-- the capacities and keeps every queue within its own (`Kept`) keeps the queues allowed. Places past the end of a list read as 0.
-- Assumes nothing.
use Prim.Native.Nat.{ℕ, ◌/◌, ◌%◌, ◌≤◌, ◌<◌}
use native.Mathlib.Omega.{arith}
use mathlib.Core.Path.{◌≡◌}
use mathlib.Core.Logic.{⊎_elim}
use mathlib.Core.Bool.{Bool, true, false, ◌&&◌, and-eq-true_iff}
use mathlib.Core.List.{List}
use lib.ListN.{length, get_or, get_or-eq_default}
use lib.Dec.{leb, ltb, eqb}
use borrow.Author.Tests.{leb-true, le-leb, ltb-true, lt-ltb, eqb-true, eq-eqb}
use Rattle.base.specs.Below.{all_below}
use Rattle.base.proofs.Below.{both_true, all_at, all_each}
use Rattle.base.proofs.Cases.{true_or_false}
use Rattle.base.proofs.Order.{le_or_lt}
use Rattle.layout.specs.Header.{has_crosspoints}
use Rattle.layout.specs.Tables.{capacity_allowed}
use Rattle.queues.specs.declared.Queues.{Queues}
use Rattle.queues.specs.Queues.{place}
use Rattle.slot_laws.proofs.QueueLengths.{Within, Alike, inside, place_input, place_output, place_below}
use Rattle.slot_laws.proofs.Balance.{Sized, Bounded, Kept}
use Rattle.slot_laws.proofs.Filling.{Used}
use Rattle.slot_laws.proofs.ProgressLaws.{Served}
use Rattle.switch.specs.Allowed.{used_pair, queue_allowed, queues_allowed}

-- both tests pass
pub both : (a b : Bool) → a ≡ true → b ≡ true → (a && b) ≡ true
both a b p q = (and-eq-true_iff a b).1 (p, q)

-- one queue
pub queue_bound : (used : Bool) (cap len : ℕ) → queue_allowed used cap len ≡ true → len ≤ cap
unfolding queue_allowed
queue_bound true cap len e = leb-true len cap (both_true (capacity_allowed cap) (leb len cap) e).1
queue_bound false cap len e =
    let b = both_true (eqb cap 0) (eqb len 0) e in
    omega (arith, eqb-true cap 0 b.0, eqb-true len 0 b.1)

pub queue_other : (used : Bool) (cap len other : ℕ) → queue_allowed used cap len ≡ true → other ≤ cap → queue_allowed used cap other ≡ true
unfolding queue_allowed
queue_other true cap len other e h = both (capacity_allowed cap) (leb other cap) (both_true (capacity_allowed cap) (leb len cap) e).0 (le-leb other cap h)
queue_other false cap len other e h =
    let zero-cap = (both_true (eqb cap 0) (eqb len 0) e).0 in
    both (eqb cap 0) (eqb other 0) zero-cap (eq-eqb other 0 (omega (arith, eqb-true cap 0 zero-cap)))

pub queue_room : (used : Bool) (cap len : ℕ) → queue_allowed used cap len ≡ true → used ≡ true → 1 ≤ cap
unfolding queue_allowed capacity_allowed
queue_room used cap len e u =
    let t : (capacity_allowed cap && leb len cap) ≡ true = rw u at e in
    leb-true 1 cap (both_true (leb 1 cap) (leb cap 1024) (both_true (capacity_allowed cap) (leb len cap) t).0).0

pub queue_empty : (used : Bool) (cap len : ℕ) → queue_allowed used cap len ≡ true → used ≡ false → len ≡ 0
unfolding queue_allowed
queue_empty used cap len e u = let t : (eqb cap 0 && eqb len 0) ≡ true = rw u at e in eqb-true len 0 (both_true (eqb cap 0) (eqb len 0) t).1

-- the queues of one kind, of which there are n: each passes its test
abbrev pub kind_allowed : (ℕ → Bool) → List ℕ → List ℕ → ℕ → Bool
kind_allowed used cap len n = all_below (λ k. queue_allowed (used k) (get_or cap k 0) (get_or len k 0)) n

module _ (used : ℕ → Bool) (cap len : List ℕ) (n : ℕ) (ok : kind_allowed used cap len n ≡ true) where
  pub each_allowed : (k : ℕ) → k < n → queue_allowed (used k) (get_or cap k 0) (get_or len k 0) ≡ true
  each_allowed k h = all_at (λ k. queue_allowed (used k) (get_or cap k 0) (get_or len k 0)) n ok k h

  pub kind_within : length len ≤ n → Within cap len
  kind_within long k =
      ⊎_elim
      (λ (h : n ≤ k). let z = get_or-eq_default len 0 {n = k} (omega arith) in omega arith)
      (λ (h : k < n). queue_bound (used k) (get_or cap k 0) (get_or len k 0) (each_allowed k h))
      (le_or_lt n k)

  -- with other lengths, within the capacities as these are
  pub kind_kept : (p : List ℕ) → length len ≤ n → Alike cap len p → kind_allowed used cap p n ≡ true
  kind_kept p long a =
      all_each (λ k. queue_allowed (used k) (get_or cap k 0) (get_or p k 0)) n
      (λ k h. queue_other (used k) (get_or cap k 0) (get_or len k 0) (get_or p k 0) (each_allowed k h) (a.within (kind_within long) k))

  -- a place that is used has a capacity, and only such a place holds packets
  pub kind_room : (k : ℕ) → k < n → used k ≡ true → 1 ≤ get_or cap k 0
  kind_room k h u = queue_room (used k) (get_or cap k 0) (get_or len k 0) (each_allowed k h) u

  pub kind_used : length len ≤ n → (k : ℕ) → 1 ≤ get_or len k 0 → used k ≡ true
  kind_used long k some =
      let h : k < n = omega (arith, inside len k some) in
      ⊎_elim
      (λ (u : used k ≡ true). u)
      (λ (u : used k ≡ false). let z = queue_empty (used k) (get_or cap k 0) (get_or len k 0) (each_allowed k h) u in absurd (omega arith))
      (true_or_false (used k))

  -- where no place is used all are empty
  pub kind_empty : length len ≤ n → ((k : ℕ) → used k ≡ false) → (k : ℕ) → get_or len k 0 ≡ 0
  kind_empty long none k =
      ⊎_elim
      (λ (h : n ≤ k). get_or-eq_default len 0 {n = k} (omega arith))
      (λ (h : k < n). queue_empty (used k) (get_or cap k 0) (get_or len k 0) (each_allowed k h) (none k))
      (le_or_lt n k)

-- the pairs in use are those between used ports
pub used_pair_lem : (ports k : ℕ) → used_pair ports k ≡ true → (k / 16 < ports) × (k % 16 < ports)
unfolding used_pair
used_pair_lem ports k e =
    let b = both_true (ltb (k / 16) ports) (ltb (k % 16) ports) e in
    (ltb-true (k / 16) ports b.0, ltb-true (k % 16) ports b.1)

pub pair_used : (ports i j : ℕ) → ports ≤ 16 → i < ports → j < ports → used_pair ports (place i j) ≡ true
unfolding used_pair
pair_used ports i j few h l =
    both (ltb (place i j / 16) ports) (ltb (place i j % 16) ports)
    (lt-ltb (place i j / 16) ports (omega (arith, place_input i j (omega arith))))
    (lt-ltb (place i j % 16) ports (omega (arith, place_output i j (omega arith))))

-- which of the places for crosspoints are used
abbrev pub cross_used : ℕ → ℕ → ℕ → Bool
cross_used model ports k = has_crosspoints model && used_pair ports k

-- all queues of a switch, kind by kind
module _ (model ports : ℕ) (q : Queues) where
  pub record Kinds : Type 0 where
    pub inputs : kind_allowed (used_pair ports) q.incap q.inlen 256 ≡ true
    pub outputs : kind_allowed (λ j. ltb j ports) q.outcap q.outlen 16 ≡ true
    pub crosspoints : kind_allowed (cross_used model ports) q.crosscap q.crosslen 256 ≡ true

  pub kinds : queues_allowed model ports q ≡ true → Kinds
  unfolding queues_allowed
  kinds e =
      let a = both_true _ _ e in
      let b = both_true _ _ a.1 in
      record { inputs = a.0; outputs = b.0; crosspoints = b.1 }

  pub by_kinds : Kinds → queues_allowed model ports q ≡ true
  unfolding queues_allowed
  by_kinds k = (and-eq-true_iff _ _).1 (k.inputs, (and-eq-true_iff _ _).1 (k.outputs, k.crosspoints))

module _ (model ports : ℕ) (q : Queues) (s : Sized q) (ok : queues_allowed model ports q ≡ true) where
  -- no queue is above its capacity
  pub allowed_bounded : Bounded q
  allowed_bounded =
      let k = kinds model ports q ok in
      record {
        inlen = kind_within (used_pair ports) q.incap q.inlen 256 k.inputs (omega (arith, s.inlen));
        outlen = kind_within (λ j. ltb j ports) q.outcap q.outlen 16 k.outputs (omega (arith, s.outlen));
        crosslen =
            kind_within (cross_used model ports) q.crosscap q.crosslen 256 k.crosspoints (omega (arith, s.crosslen));
      }

  pub queues_kept : (p : Queues) → Kept q p → queues_allowed model ports p ≡ true
  queues_kept p a =
      let k = kinds model ports q ok in
      by_kinds model ports p
      (record {
        inputs = rw a.incap (kind_kept (used_pair ports) q.incap q.inlen 256 k.inputs p.inlen (omega (arith, s.inlen)) a.inlen);
        outputs = rw a.outcap (kind_kept (λ j. ltb j ports) q.outcap q.outlen 16 k.outputs p.outlen (omega (arith, s.outlen)) a.outlen);
        crosspoints =
            rw a.crosscap (kind_kept (cross_used model ports) q.crosscap q.crosslen 256 k.crosspoints p.crosslen (omega (arith, s.crosslen)) a.crosslen);
      })

  -- only queues of used ports hold packets
  pub inputs_used : Used ports q.inlen
  inputs_used k some =
      used_pair_lem ports k (kind_used (used_pair ports) q.incap q.inlen 256 (kinds model ports q ok).inputs (omega (arith, s.inlen)) k some)

  pub outputs_used : (j : ℕ) → 1 ≤ get_or q.outlen j 0 → j < ports
  outputs_used j some =
      ltb-true j ports (kind_used (λ j. ltb j ports) q.outcap q.outlen 16 (kinds model ports q ok).outputs (omega (arith, s.outlen)) j some)

  pub crosspoints_used : Used ports q.crosslen
  crosspoints_used k some =
      let u = kind_used (cross_used model ports) q.crosscap q.crosslen 256 (kinds model ports q ok).crosspoints (omega (arith, s.crosslen)) k some in
      used_pair_lem ports k (both_true (has_crosspoints model) (used_pair ports k) u).1

  -- every used queue has a capacity
  pub outputs_roomy : ports ≤ 16 → (j : ℕ) → j < ports → 1 ≤ get_or q.outcap j 0
  outputs_roomy few j h =
      kind_room (λ j. ltb j ports) q.outcap q.outlen 16 (kinds model ports q ok).outputs j (omega arith) (lt-ltb j ports h)

  pub inputs_roomy : ports ≤ 16 → (i j : ℕ) → i < ports → j < ports → 1 ≤ get_or q.incap (place i j) 0
  inputs_roomy few i j h l =
      kind_room (used_pair ports) q.incap q.inlen 256 (kinds model ports q ok).inputs (place i j) (place_below i j (omega arith) (omega arith))
      (pair_used ports i j few h l)

  pub crosspoints_roomy : ports ≤ 16 → has_crosspoints model ≡ true → (i j : ℕ) → i < ports → j < ports → 1 ≤ get_or q.crosscap (place i j) 0
  crosspoints_roomy few x i j h l =
      kind_room (cross_used model ports) q.crosscap q.crosslen 256 (kinds model ports q ok).crosspoints (place i j) (place_below i j (omega arith) (omega arith))
      (both (has_crosspoints model) (used_pair ports (place i j)) x (pair_used ports i j few h l))

  -- a switch without crosspoints holds nothing there
  pub crosspoints_apart : has_crosspoints model ≡ false → (k : ℕ) → get_or q.crosslen k 0 ≡ 0
  crosspoints_apart x k =
      kind_empty (cross_used model ports) q.crosscap q.crosslen 256 (kinds model ports q ok).crosspoints (omega (arith, s.crosslen)) (λ k. rw x) k

  -- so each of N inputs that are all visited is served
  pub queues_served : (turn : List ℕ) → ports ≤ 16 → ((i : ℕ) → i < ports → (u : ℕ) × (u < length turn) × (get_or turn u 0 ≡ i))
      → Served (has_crosspoints model) q ports turn
  queues_served turn few visits =
      record {
        few = few;
        sized = s;
        visits = visits;
        inputs = inputs_used;
        outputs = outputs_used;
        crosspoints = crosspoints_used;
        out_room = outputs_roomy few;
        cross_room = crosspoints_roomy few;
        apart = crosspoints_apart;
      }
