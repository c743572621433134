-- Sendings, as a relation: outputs come one after another, and each sends one packet if its queue waits and it may. An output that has not
-- come yet is as at the start, so each sends exactly where it waits at the start and may. The rest are inductions over the outputs.
-- Assumes nothing.
use Prim.Native.Nat.{ℕ, zero, suc, ◌+◌, ◌≤◌, ◌<◌}
use native.Mathlib.Nat.{not-suc-le-zero}
use native.Mathlib.Omega.{arith}
use mathlib.Core.Path.{◌≡◌, refl, sym, ap, ◌∙◌}
use mathlib.Core.Logic.{◌≢◌}
use mathlib.Core.Bool.{Bool, true, false, ◌&&◌, cond}
use mathlib.Core.List.{List, [], ◌∷◌, ◌++◌}
use lib.ListN.{length, get_or}
use Rattle.base.specs.Below.{sum_below}
use Rattle.base.proofs.Below.{both_true, below_suc}
use Rattle.base.proofs.Sums.{total}
use Rattle.queues.specs.Queues.{waits, fewer}
use Rattle.queues.specs.Events.{sent_at, of_kind}
use Rattle.queues.specs.Slot.{Sendings, sent_one, sendings}
use Rattle.slot_laws.proofs.QueueLengths.{Within, waits_some, length_fewer, fewer_here, fewer_other, within_fewer, total_fewer}
use Rattle.slot_laws.proofs.EventsLaws.{of_both, one_of_kind, one_of_other, more_events}

-- the first j outputs have come, and s is left
pub data Sending (may : ℕ → Bool) (outlen : List ℕ) (slot : ℕ) : ℕ → Sendings → Type 0 where
  unsent : Sending may outlen slot zero (record { outlen = outlen; events = [] })
  sends : {j : ℕ} {b : Sendings} → Sending may outlen slot j b → waits b.outlen j ≡ true → may j ≡ true
      → Sending may outlen slot (suc j) (record { outlen = fewer b.outlen j; events = b.events ++ (sent_at slot j ∷ []) })
  keeps : {j : ℕ} {b : Sendings} → Sending may outlen slot j b → (waits b.outlen j && may j) ≡ false → Sending may outlen slot (suc j) b

-- 1 where an output sends, and 0 where it does not
abbrev pub sends_one : (ℕ → Bool) → List ℕ → ℕ → ℕ
sends_one may outlen j = cond (waits outlen j && may j) 1 0

module _ (may : ℕ → Bool) (outlen : List ℕ) (slot : ℕ) where
  sent_step : (j : ℕ) (b : Sendings) (t : Bool) → Sending may outlen slot j b → (waits b.outlen j && may j) ≡ t → Sending may outlen slot (suc j) (sent_one t b slot j)
  unfolding sent_one
  sent_step j b true s e = let p = both_true (waits b.outlen j) (may j) e in sends s p.0 p.1
  sent_step j b false s e = keeps s e

  pub sendings_sent : (j : ℕ) → Sending may outlen slot j (sendings may outlen slot j)
  unfolding sendings
  sendings_sent zero = unsent
  sendings_sent (suc j) =
      let b = sendings may outlen slot j in sent_step j b (waits b.outlen j && may j) (sendings_sent j) refl

module _ {may : ℕ → Bool} {outlen : List ℕ} {slot : ℕ} where
  pub sent_length : {j : ℕ} {b : Sendings} → Sending may outlen slot j b → length b.outlen ≡ length outlen
  sent_length unsent = refl
  sent_length (sends {j = j} {b = b} s w m) = length_fewer b.outlen j ∙ sent_length s
  sent_length (keeps s n) = sent_length s

  pub sent_within : {j : ℕ} {b : Sendings} → Sending may outlen slot j b → (cap : List ℕ) → Within cap outlen → Within cap b.outlen
  sent_within unsent cap h = h
  sent_within (sends {j = j} {b = b} s w m) cap h = within_fewer b.outlen j cap (sent_within s cap h)
  sent_within (keeps s n) cap h = sent_within s cap h

  -- what left is what the events count
  pub sent_total : {j : ℕ} {b : Sendings} → Sending may outlen slot j b → (n : ℕ) → length outlen ≤ n → total b.outlen n + length b.events ≡ total outlen n
  sent_total unsent n h = omega arith
  sent_total (sends {j = j} {b = b} s w m) n h =
      let rest = sent_total s n h in
      let less = total_fewer b.outlen j n w (omega (arith, sent_length s)) in
      omega (arith, more_events b.events (sent_at slot j))
  sent_total (keeps s n) k h = sent_total s k h

  pub sent_kind : {j : ℕ} {b : Sendings} → Sending may outlen slot j b → of_kind 5 b.events ≡ length b.events
  unfolding of_kind sent_at
  sent_kind unsent = refl
  sent_kind (sends {j = j} {b = b} s w m) =
      let rest = sent_kind s in
      omega (arith, of_both 5 b.events (sent_at slot j ∷ []), one_of_kind 5 (sent_at slot j) refl, more_events b.events (sent_at slot j))
  sent_kind (keeps s n) = sent_kind s

  pub sent_other_kind : {j : ℕ} {b : Sendings} → Sending may outlen slot j b → (other : ℕ) → 5 ≢ other → of_kind other b.events ≡ 0
  unfolding of_kind sent_at
  sent_other_kind unsent other d = refl
  sent_other_kind (sends {j = j} {b = b} s w m) other d =
      let rest = sent_other_kind s other d in
      omega (arith, of_both other b.events (sent_at slot j ∷ []), one_of_other other (sent_at slot j) d)
  sent_other_kind (keeps s n) other d = sent_other_kind s other d

  -- no more packets than outputs
  pub sent_few : {j : ℕ} {b : Sendings} → Sending may outlen slot j b → length b.events ≤ j
  sent_few unsent = omega arith
  sent_few (sends {j = j} {b = b} s w m) = let rest = sent_few s in omega (arith, more_events b.events (sent_at slot j))
  sent_few (keeps s n) = let rest = sent_few s in omega arith

  -- an output that has not come is as at the start
  pub sent_later : {j : ℕ} {b : Sendings} → Sending may outlen slot j b → (k : ℕ) → j ≤ k → get_or b.outlen k 0 ≡ get_or outlen k 0
  sent_later unsent k h = refl
  sent_later (sends {j = j} {b = b} s w m) k h = fewer_other b.outlen j k (omega arith) ∙ sent_later s k (omega arith)
  sent_later (keeps s n) k h = sent_later s k (omega arith)

  -- so it waits exactly where it does at the start
  now_as_before : {j : ℕ} {b : Sendings} → Sending may outlen slot j b → waits b.outlen j ≡ waits outlen j
  unfolding waits
  now_as_before {j} s = rw (sent_later s j (omega arith))

  -- each output that has come has sent, if it waits and may
  pub sent_each : {j : ℕ} {b : Sendings} → Sending may outlen slot j b → (k : ℕ) → k < j → get_or b.outlen k 0 + sends_one may outlen k ≡ get_or outlen k 0
  sent_each unsent k h = absurd (not-suc-le-zero h)
  sent_each (sends {j = j} {b = b} s w m) k h =
      let start : waits outlen j ≡ true = sym (now_as_before s) ∙ w in
      below_suc j k h
      (λ l. omega (arith, fewer_other b.outlen j k (omega arith), sent_each s k l))
      (λ e. rw (e, start, m) (omega (arith, fewer_here b.outlen j, waits_some b.outlen j w, sent_later s j (omega arith))))
  sent_each (keeps {j = j} {b = b} s n) k h =
      let start : (waits outlen j && may j) ≡ false = ap (λ (t : Bool). t && may j) (sym (now_as_before s)) ∙ n in
      below_suc j k h (λ l. sent_each s k l) (λ e. rw (e, start) (omega (arith, sent_later s j (omega arith))))

  -- and the events count those that have
  pub sent_count : {j : ℕ} {b : Sendings} → Sending may outlen slot j b → length b.events ≡ sum_below (sends_one may outlen) j
  unfolding sum_below
  sent_count unsent = refl
  sent_count (sends {j = j} {b = b} s w m) =
      let start : waits outlen j ≡ true = sym (now_as_before s) ∙ w in
      rw (start, m) (omega (arith, more_events b.events (sent_at slot j), sent_count s))
  sent_count (keeps {j = j} {b = b} s n) =
      let start : (waits outlen j && may j) ≡ false = ap (λ (t : Bool). t && may j) (sym (now_as_before s)) ∙ n in
      rw start (omega (arith, sent_count s))
