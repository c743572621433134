-- Where an accepted trace stands after any number of slots, and within a slot: the switch is allowed, its slot number is the slot's, what
-- arrived is what the slot counts before it add up to, and its other numbers are the header's. From there the next arrival is taken, since
-- its ports are below N and fewer have arrived than the header says; and the slot closes, since there are at most 4,096 slots. So no queue is
-- ever above its capacity.
-- Assumes nothing.
use Prim.Native.Nat.{ℕ, zero, suc, ◌+◌, ◌*◌, ◌≤◌, ◌<◌}
use native.Mathlib.Nat.{add-zero}
use native.Mathlib.Omega.{arith}
use mathlib.Core.Path.{◌≡◌, refl, ap, ◌∙◌, subst}
use mathlib.Core.Logic.{⊎_elim}
use mathlib.Core.Bool.{true}
use mathlib.Core.List.{List}
use lib.Dec.{ltb}
use borrow.Author.Tests.{ltb-true, lt-ltb}
use Rattle.base.specs.Below.{sum_below}
use Rattle.base.specs.Refusal.{unless}
use Rattle.base.proofs.Below.{all_at}
use Rattle.base.proofs.Order.{le_or_lt}
use Rattle.base.proofs.RefusalLaws.{passed}
use Rattle.layout.specs.Tables.{ports_below}
use Rattle.trace.specs.Reading.{header_of, slot_count, port_byte, reading}
use Rattle.trace.specs.Slots.{arrival_of, before}
use Rattle.layout.proofs.HeaderLaws.{allowed}
use Rattle.trace.proofs.ReadingLaws.{whole}
use Rattle.trace.proofs.SlotsLaws.{slots_few}
use Rattle.slot_laws.proofs.Balance.{Sized, Bounded}
use Rattle.slot_laws.proofs.SlotLaws.{arrival_arrived}
use Rattle.switch.specs.declared.Switch.{Switch}
use Rattle.switch.specs.Switch.{advanced}
use Rattle.switch.specs.Allowed.{switch_allowed}
use Rattle.switch.specs.Steps.{arrive_refusal, arrive_step, close_refusal, close_step}
use Rattle.switch.specs.Making.{unused, fresh}
use Rattle.switch.proofs.QueuesKept.{both}
use Rattle.switch.proofs.KeepsLaws.{never_above, arrive_keeps, close_keeps}
use Rattle.switch.proofs.ClosingLaws.{closed_counts}
use Rattle.switch.proofs.FreshLaws.{fresh_allowed}
use Rattle.run.specs.Run.{History, grown, arriving, arrivals, closed, slots, whole as whole_run}

-- the counts before a slot
module _ (s : List ℕ) where
  pub before_more : (t : ℕ) → before s (suc t) ≡ before s t + slot_count s t
  unfolding before sum_below
  before_more t = refl

  pub before_grows : (t n : ℕ) → t ≤ n → before s t ≤ before s n
  before_grows t zero h = let e : t ≡ 0 = omega arith in rw e (omega arith)
  before_grows t (suc n) h =
      let more = before_more n in
      ⊎_elim
      (λ (l : t ≤ n). let rest = before_grows t n l in omega arith)
      (λ (l : n < t). let e : t ≡ suc n = omega arith in rw e (omega arith))
      (le_or_lt t n)

-- w is a switch of this trace in slot t, and n have arrived
pub record Reached (s : List ℕ) (t n : ℕ) (w : Switch) : Type 0 where
  pub allowed : switch_allowed w ≡ true
  pub sized : Sized w.queues
  pub slot : w.slot ≡ t
  pub arrived : w.arrived ≡ n
  pub model : w.model ≡ (header_of s).model
  pub order : w.order ≡ (header_of s).order
  pub ports : w.ports ≡ (header_of s).ports
  pub speedup : w.speedup ≡ (header_of s).speedup

module _ (s : List ℕ) (r : reading s ≡ 0) where
  fresh_reached : Reached s 0 0 (fresh s)
  unfolding fresh unused
  fresh_reached =
      let f = fresh_allowed s r in
      record { allowed = f.0; sized = f.1; slot = refl; arrived = refl; model = refl; order = refl; ports = refl; speedup = refl }

  -- the ports of every arrival are below N
  pub arrival_ports : (a : ℕ) → a < (header_of s).arrivals → ((arrival_of s a).input < (header_of s).ports) × ((arrival_of s a).output < (header_of s).ports)
  unfolding ports_below arrival_of
  arrival_ports a h =
      let below = all_at (λ b. ltb (port_byte s b) (header_of s).ports) (2 * (header_of s).arrivals) (whole s r).ports in
      (ltb-true _ _ (below (2 * a) (omega arith)), ltb-true _ _ (below (2 * a + 1) (omega arith)))

  -- the next arrival is not refused
  pub arrival_taken : (t n : ℕ) (w : Switch) → Reached s t n w → n < (header_of s).arrivals → arrive_refusal w (arrival_of s n).input (arrival_of s n).output ≡ 0
  unfolding arrive_refusal unless
  arrival_taken t n w a h =
      let i = (arrival_of s n).input in
      let j = (arrival_of s n).output in
      let p = arrival_ports n h in
      let few = (allowed (header_of s) (whole s r).header).arrivals in
      let ports =
      both (ltb i w.ports) (ltb j w.ports) (lt-ltb i w.ports (omega (arith, a.ports))) (lt-ltb j w.ports (omega (arith, a.ports))) in
      let room = lt-ltb w.arrived 4096 (omega (arith, a.arrived)) in
      passed _ 13 _ a.allowed ∙ passed _ 11 _ ports ∙ rw room

  pub arrive_reached : (t n : ℕ) (w : Switch) → Reached s t n w → n < (header_of s).arrivals → Reached s t (n + 1) (arrive_step w (arrival_of s n).input (arrival_of s n).output)
  unfolding arrive_step advanced
  arrive_reached t n w a h =
      let p = arrival_of s n in
      let k = arrive_keeps w p.input p.output a.sized (arrival_taken t n w a h) in
      let one = (arrival_arrived w.queues w.slot p.input p.output a.sized).once in
      record {
        allowed = k.0;
        sized = k.1;
        slot = a.slot;
        arrived = omega (arith, a.arrived);
        model = a.model;
        order = a.order;
        ports = a.ports;
        speedup = a.speedup;
      }

  close_reached : (t n : ℕ) (w : Switch) → Reached s t n w → t < 8192 → Reached s (suc t) n (close_step w)
  close_reached t n w a low =
      let k = close_keeps w a.sized a.allowed (omega (arith, a.slot)) in
      let c = closed_counts w a.sized a.allowed in
      record {
        allowed = k.0;
        sized = k.1;
        slot = ap (λ (x : Switch). x.slot) c ∙ omega (arith, a.slot);
        arrived = ap (λ (x : Switch). x.arrived) c ∙ a.arrived;
        model = ap (λ (x : Switch). x.model) c ∙ a.model;
        order = ap (λ (x : Switch). x.order) c ∙ a.order;
        ports = ap (λ (x : Switch). x.ports) c ∙ a.ports;
        speedup = ap (λ (x : Switch). x.speedup) c ∙ a.speedup;
      }

  -- k arrivals later
  arrivals_reached : (t : ℕ) (h : History) (start k : ℕ) → Reached s t start h.switch → start + k ≤ (header_of s).arrivals
      → Reached s t (start + k) (arrivals s h start k).switch
  unfolding arrivals arriving grown arrive_step
  arrivals_reached t h start zero a l = rw add-zero a
  arrivals_reached t h start (suc k) a l =
      let b = arrivals s h start k in
      let rest = arrivals_reached t h start k a (omega arith) in
      let more : start + k + 1 ≡ start + suc k = omega arith in
      subst (λ (n : ℕ). Reached s t n (arriving b (arrival_of s (start + k))).switch) more (arrive_reached t (start + k) b.switch rest (omega arith))

  pub before_all : before s (header_of s).slots ≡ (header_of s).arrivals
  unfolding before
  before_all = (whole s r).counts

  pub before_few : (t : ℕ) → t < (header_of s).slots → before s t + slot_count s t ≤ (header_of s).arrivals
  before_few t h = omega (arith, before_more s t, before_grows s (suc t) (header_of s).slots h, before_all)

  slot_reached : (t : ℕ) → t < (header_of s).slots → Reached s t (before s t) (slots s t).switch → Reached s (suc t) (before s (suc t)) (slots s (suc t)).switch
  unfolding slots closed grown close_step
  slot_reached t h a =
      let b = arrivals s (slots s t) (before s t) (slot_count s t) in
      let all = arrivals_reached t (slots s t) (before s t) (slot_count s t) a (before_few t h) in
      rw before_more (close_reached t (before s t + slot_count s t) b.switch all (omega (arith, slots_few s r)))

  -- after t slots
  pub history_allowed : (t : ℕ) → t ≤ (header_of s).slots → Reached s t (before s t) (slots s t).switch
  unfolding slots before sum_below
  history_allowed zero h = fresh_reached
  history_allowed (suc t) h = slot_reached t h (history_allowed t (omega arith))

  module _ (t k : ℕ) (h : t < (header_of s).slots) where
    -- and k arrivals of slot t
    pub slot_allowed : k ≤ slot_count s t → Reached s t (before s t + k) (arrivals s (slots s t) (before s t) k).switch
    slot_allowed l = arrivals_reached t (slots s t) (before s t) k (history_allowed t (omega arith)) (omega (arith, before_few t h))

    pub no_arrival_refused : k < slot_count s t
        → arrive_refusal (arrivals s (slots s t) (before s t) k).switch (arrival_of s (before s t + k)).input (arrival_of s (before s t + k)).output ≡ 0
    no_arrival_refused l =
        arrival_taken t (before s t + k) (arrivals s (slots s t) (before s t) k).switch (slot_allowed (omega arith)) (omega (arith, before_few t h))

  pub no_closing_refused : (t : ℕ) → t < (header_of s).slots → close_refusal (arrivals s (slots s t) (before s t) (slot_count s t)).switch ≡ 0
  unfolding close_refusal unless
  no_closing_refused t h =
      let w = (arrivals s (slots s t) (before s t) (slot_count s t)).switch in
      let a = slot_allowed t (slot_count s t) h (omega arith) in
      passed _ 13 _ a.allowed ∙ rw (lt-ltb w.slot 8192 (omega (arith, a.slot, slots_few s r)))

  -- at the end all have arrived
  pub whole_allowed : Reached s (header_of s).slots (header_of s).arrivals (whole_run s).switch
  unfolding whole_run
  whole_allowed = rw before_all at (history_allowed (header_of s).slots (omega arith))

  -- no queue is above its capacity, after any slot and any arrival
  pub never_over : (t : ℕ) → t ≤ (header_of s).slots → Bounded (slots s t).switch.queues
  never_over t h = let a = history_allowed t h in never_above (slots s t).switch a.sized a.allowed

  pub never_over_within : (t k : ℕ) → t < (header_of s).slots → k ≤ slot_count s t → Bounded (arrivals s (slots s t) (before s t) k).switch.queues
  never_over_within t k h l = let a = slot_allowed t k h l in never_above (arrivals s (slots s t) (before s t) k).switch a.sized a.allowed
