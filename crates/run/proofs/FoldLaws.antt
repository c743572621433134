-- A slot's arrivals, taken one by one from the trace as the definition has it, are those that its part of the trace holds, done to the queues at once.
-- Assumes nothing.
use Prim.Native.Nat.{ℕ, zero, suc, ◌+◌, ◌*◌, ◌≤◌, ◌<◌}
use native.Mathlib.Nat.{add-zero, add_assoc}
use native.Mathlib.Omega.{arith}
use mathlib.Core.Path.{◌≡◌, refl, sym, ap, ap₂, ◌∙◌}
use mathlib.Core.Logic.{⊎_elim}
use Rattle.base.proofs.Order.{le_or_lt}
use mathlib.Core.List.{List, ◌++◌, append_assoc, append-nil}
use lib.ListN.{length, get_or, drop, length-drop}
use lib.Seq.{get_or-take, get_or-drop, length-take-le}
use Rattle.base.specs.Below.{sum_below}
use Rattle.trace.specs.declared.Ports.{Ports}
use Rattle.layout.specs.Header.{has_crosspoints, places_of, total_of}
use Rattle.trace.specs.Reading.{word, header_of, slot_count, port_byte, reading}
use Rattle.trace.specs.Slots.{arrival_of, before, part_from}
use Rattle.trace.proofs.ReadingLaws.{whole, right}
use Rattle.queues.specs.Events.{Event, of_kind}
use Rattle.queues.specs.Slot.{Done, begun, after, arrival}
use Rattle.slot_laws.proofs.EventsLaws.{of_both}
use Rattle.switch.specs.declared.Switch.{Switch}
use Rattle.switch.specs.Switch.{outmoved_kind, advanced}
use Rattle.run.specs.Run.{History, grown, arriving, arrivals}
use Rattle.run.specs.Taking.{takings}

-- counts grow by one part and then by the next
twice : (n kind : ℕ) (a b : List Event) → n + of_kind kind a + of_kind kind b ≡ n + of_kind kind (a ++ b)
twice n kind a b = omega (arith, of_both kind a b)

pub advanced_then : (s : Switch) (d e : Done) (t u : ℕ) → advanced (advanced s d t) e u ≡ advanced s (after d e) u
unfolding advanced after
advanced_then s d e t u =
    let k : ℕ = outmoved_kind (has_crosspoints s.model) in
    let arrived : s.arrived + (of_kind 1 d.events + of_kind 2 d.events) + (of_kind 1 e.events + of_kind 2 e.events) ≡ s.arrived + (of_kind 1 (d.events ++ e.events) + of_kind 2 (d.events ++ e.events)) =
    omega (arith, of_both 1 d.events e.events, of_both 2 d.events e.events) in
    rw (arrived, twice s.dropped 2 d.events e.events, twice s.crossed 3 d.events e.events, twice s.outmoved k d.events e.events, twice s.sent 5 d.events e.events)

pub grown_then : (h : History) (d e : Done) (t u : ℕ) → grown (grown h d t) e u ≡ grown h (after d e) u
unfolding grown
grown_then h d e t u = rw (advanced_then h.switch d e t u, append_assoc) (unfold after in refl)

pub nothing_grown : (h : History) → grown h (begun h.switch.queues) h.switch.slot ≡ h
unfolding grown advanced begun of_kind
nothing_grown h = simp (add-zero, append-nil)

-- one arrival after what was done
one_more : (h : History) (d : Done) (p : Ports) (i o : ℕ) → p.input ≡ i → p.output ≡ o → arriving (grown h d h.switch.slot) p ≡ grown h (after d (arrival d.queues h.switch.slot i o)) h.switch.slot
unfolding arriving grown advanced
one_more h d p i o ei eo =
    ap₂ (λ (i o : ℕ). grown (grown h d h.switch.slot) (arrival d.queues h.switch.slot i o) h.switch.slot) ei eo
    ∙ grown_then h d (arrival d.queues h.switch.slot i o) h.switch.slot h.switch.slot

-- the first slots' counts are part of the whole sum
sum_grows : (f : ℕ → ℕ) (m n : ℕ) → m ≤ n → sum_below f m ≤ sum_below f n
unfolding sum_below
sum_grows f zero n h = omega arith
sum_grows f (suc m) zero h = omega arith
sum_grows f (suc m) (suc n) h =
    ⊎_elim
    (λ (e : suc m ≤ n). let less = sum_grows f (suc m) n e in omega arith)
    (λ (e : n < suc m). let same : m ≡ n = omega arith in rw same (omega arith))
    (le_or_lt (suc m) n)

-- the part that holds a slot's arrivals
module _ (s : List ℕ) (accepted : reading s ≡ 0) (t : ℕ) (below : t < (header_of s).slots) where
  within : word s 32 + 2 * before s t + 2 * slot_count s t ≤ length s
  unfolding before places_of total_of
  within =
      let w = whole s accepted in
      let r = right s (places_of (header_of s)) w.places in
      let grows : sum_below (slot_count s) (suc t) ≤ sum_below (slot_count s) (header_of s).slots = sum_grows (slot_count s) (suc t) (header_of s).slots (omega arith) in
      let more : sum_below (slot_count s) (suc t) ≡ sum_below (slot_count s) t + slot_count s t = unfold sum_below in refl in
      omega (arith, r.arrivals, r.length, w.counts)

  pub part_length : length (part_from s t (before s t)) ≡ 2 * slot_count s t
  unfolding part_from
  part_length = length-take-le (2 * slot_count s t) (drop (word s 32 + 2 * before s t) s) (rw length-drop (omega (arith, within)))

  part_byte : (m : ℕ) → m < 2 * slot_count s t → get_or (part_from s t (before s t)) m 0 ≡ port_byte s (2 * before s t + m)
  unfolding part_from port_byte
  part_byte m h =
      get_or-take (2 * slot_count s t) (drop (word s 32 + 2 * before s t) s) m 0 h
      ∙ get_or-drop (word s 32 + 2 * before s t) s m 0
      ∙ ap (λ (p : ℕ). get_or s p 0) (add_assoc (word s 32) (2 * before s t) m)

  -- arrival k of the slot
  part_arrival : (k : ℕ) → k < slot_count s t → ((arrival_of s (before s t + k)).input ≡ get_or (part_from s t (before s t)) (2 * k) 0) × ((arrival_of s (before s t + k)).output ≡ get_or (part_from s t (before s t)) (2 * k + 1) 0)
  unfolding arrival_of
  part_arrival k h =
      let i : 2 * (before s t + k) ≡ 2 * before s t + 2 * k = omega arith in
      let o : 2 * (before s t + k) + 1 ≡ 2 * before s t + (2 * k + 1) = omega arith in
      (ap (port_byte s) i ∙ sym (part_byte (2 * k) (omega arith)), ap (port_byte s) o ∙ sym (part_byte (2 * k + 1) (omega arith)))

  takings_more : (h : History) (k : ℕ) → k < slot_count s t → arrivals s h (before s t) k ≡ grown h (takings h.switch.queues h.switch.slot (part_from s t (before s t)) k) h.switch.slot → arrivals s h (before s t) (suc k) ≡ grown h (takings h.switch.queues h.switch.slot (part_from s t (before s t)) (suc k)) h.switch.slot
  unfolding arrivals takings
  takings_more h k less e =
      let part : List ℕ = part_from s t (before s t) in
      let p = part_arrival k less in
      ap (λ (h : History). arriving h (arrival_of s (before s t + k))) e
      ∙ one_more h (takings h.switch.queues h.switch.slot part k) (arrival_of s (before s t + k)) (get_or part (2 * k) 0) (get_or part (2 * k + 1) 0) p.0 p.1

  nothing_yet : (h : History) → arrivals s h (before s t) 0 ≡ grown h (takings h.switch.queues h.switch.slot (part_from s t (before s t)) 0) h.switch.slot
  unfolding arrivals takings
  nothing_yet h = sym (nothing_grown h)

  pub arrivals_takings : (h : History) (k : ℕ) → k ≤ slot_count s t → arrivals s h (before s t) k ≡ grown h (takings h.switch.queues h.switch.slot (part_from s t (before s t)) k) h.switch.slot
  arrivals_takings h zero le = nothing_yet h
  arrivals_takings h (suc k) le = takings_more h k le (arrivals_takings h k (omega arith))
