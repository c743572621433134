-- One arrival as the code makes it: the two counts and the one queue that change.
-- Assumes nothing.
use Prim.Native.Nat.{ℕ, ◌+◌, ◌<◌}
use native.Mathlib.Nat.{add-zero}
use mathlib.Core.Path.{◌≡◌, refl}
use mathlib.Core.Bool.{Bool, true, false}
use mathlib.Core.List.{[], ◌∷◌}
use borrow.Author.Tests.{ltb-true}
use Rattle.base.proofs.Below.{both_true}
use Rattle.base.proofs.RefusalLaws.{unless_zero, chain_zero}
use Rattle.layout.specs.Header.{has_crosspoints}
use Rattle.queues.specs.declared.Queues.{Queues}
use Rattle.queues.specs.Queues.{place, has_room, more, lengths}
use Rattle.queues.specs.Events.{accepted_at, dropped_at, of_kind}
use Rattle.queues.specs.Slot.{arrival_of, arrival}
use Rattle.switch.specs.declared.Switch.{Switch}
use Rattle.switch.specs.declared.Taken.TheVariants.{Accepted, Dropped}
use Rattle.switch.specs.Switch.{outmoved_kind, advanced}
use Rattle.switch.specs.Allowed.{switch_allowed}
use Rattle.switch.specs.Steps.{arrive_refusal, taking, arrive_step, arrived}

-- the switch with other counts of arrivals and drops, and other queues
abbrev pub taken : Switch → ℕ → ℕ → Queues → Switch
taken s a d q =
    record {
      model = s.model;
      order = s.order;
      ports = s.ports;
      speedup = s.speedup;
      slot = s.slot;
      arrived = a;
      dropped = d;
      crossed = s.crossed;
      outmoved = s.outmoved;
      sent = s.sent;
      queues = q;
    }

outmoved_accepted : (b : Bool) (slot i j : ℕ) → of_kind (outmoved_kind b) (accepted_at slot i j ∷ []) ≡ 0
unfolding of_kind outmoved_kind accepted_at
outmoved_accepted true slot i j = refl
outmoved_accepted false slot i j = refl

outmoved_dropped : (b : Bool) (slot i j : ℕ) → of_kind (outmoved_kind b) (dropped_at slot i j ∷ []) ≡ 0
unfolding of_kind outmoved_kind dropped_at
outmoved_dropped true slot i j = refl
outmoved_dropped false slot i j = refl

module _ (s : Switch) (i j : ℕ) where
  pub accepted_step : has_room s.queues.incap s.queues.inlen (place i j) ≡ true → arrive_step s i j ≡ taken s (s.arrived + 1) s.dropped (lengths s.queues (more s.queues.inlen (place i j)) s.queues.outlen s.queues.crosslen)
  unfolding arrive_step arrival arrival_of advanced of_kind accepted_at
  accepted_step e = rw (e, outmoved_accepted (has_crosspoints s.model) s.slot i j) (simp add-zero)

  pub dropped_step : has_room s.queues.incap s.queues.inlen (place i j) ≡ false → arrive_step s i j ≡ taken s (s.arrived + 1) (s.dropped + 1) s.queues
  unfolding arrive_step arrival arrival_of advanced of_kind dropped_at
  dropped_step e = rw (e, outmoved_dropped (has_crosspoints s.model) s.slot i j) (simp add-zero)

  -- the answers, from the switch that the code made
  pub accepted_answer : (w : Switch) → has_room s.queues.incap s.queues.inlen (place i j) ≡ true → w ≡ taken s (s.arrived + 1) s.dropped (lengths s.queues (more s.queues.inlen (place i j)) s.queues.outlen s.queues.crosslen) → record { taken = Accepted; switch = w } ≡ arrived s i j
  unfolding arrived taking
  accepted_answer w r e = rw (r, e, ← accepted_step r)

  pub dropped_answer : (w : Switch) → has_room s.queues.incap s.queues.inlen (place i j) ≡ false → w ≡ taken s (s.arrived + 1) (s.dropped + 1) s.queues → record { taken = Dropped; switch = w } ≡ arrived s i j
  unfolding arrived taking
  dropped_answer w r e = rw (r, e, ← dropped_step r)

  -- fewer than 4,096 arrivals have been taken
  pub more_may_arrive : arrive_refusal s i j ≡ 0 → (switch_allowed s ≡ true) × (i < s.ports) × (j < s.ports) × (s.arrived < 4096)
  unfolding arrive_refusal
  more_may_arrive e =
      let thirteen = chain_zero _ _ e in
      let eleven = chain_zero _ _ thirteen.1 in
      let ports = both_true _ _ (unless_zero _ 10 eleven.0) in
      (unless_zero _ 12 thirteen.0, ltb-true _ _ ports.0, ltb-true _ _ ports.1, ltb-true _ _ (unless_zero _ 13 eleven.1))
