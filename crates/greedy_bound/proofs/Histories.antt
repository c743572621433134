-- The run of an accepted trace of model 1 is a history of greedy matching: at the end of each of its slots, and of each slot that a drain closes after it. So
-- is the run by any orders of visiting in which each list has every input once, whatever outputs may send.
-- Assumes nothing.
use Prim.Native.Nat.{ℕ, zero, suc, ◌+◌, ◌≤◌, ◌<◌}
use native.Mathlib.Nat.{add-zero, add-suc}
use native.Mathlib.Omega.{arith}
use mathlib.Core.Path.{◌≡◌, refl, ap, subst}
use mathlib.Core.Bool.{Bool, true, false, cond}
use mathlib.Core.List.{List, []}
use lib.ListN.{get_or-replicate}
use lib.Dec.{ltb}
use borrow.Author.Tests.{ltb-true, lt-ltb, le-ltb}
use Rattle.layout.specs.Header.{has_crosspoints}
use Rattle.trace.specs.Reading.{header_of, slot_count, reading}
use Rattle.trace.specs.Slots.{arrival_of, before}
use Rattle.layout.proofs.HeaderLaws.{allowed}
use Rattle.trace.proofs.ReadingLaws.{whole as read_whole}
use Rattle.queues.specs.Queues.{place}
use Rattle.slot_laws.proofs.QueueLengths.{place_below}
use Rattle.slot_laws.proofs.TurnLaws.{Round}
use Rattle.switch.specs.Steps.{close_step}
use Rattle.switch.specs.Draining.{closings}
use Rattle.switch.specs.Making.{empty_queues, unused, fresh}
use Rattle.switch.proofs.FreshLaws.{fresh_allowed}
use Rattle.run.specs.Run.{grown, arrivals, closed, slots, whole}
use Rattle.run.proofs.HistoryLaws.{arrival_ports, before_few}
use Rattle.bound.specs.Greedy.{Empty, Arrivals, none, Greedy, start, slot}
use Rattle.greedy_bound.specs.Rivalry.{config_of, arrivals_from, arrive_in, trace_of, state_of}
use Rattle.greedy_bound.specs.Orders.{slots_by, trace_by}
use Rattle.greedy_bound.proofs.Slots.{Linked, arrivals_keep, arrivals_linked, closed_keeps, closed_linked, run_keeps, run_linked}

-- an accepted trace of model 1
module _ (s : List ℕ) (r : reading s ≡ 0) (m : (header_of s).model ≡ 1) where
  pub few : (config_of s).ports ≤ 16
  unfolding config_of fresh unused
  few = (allowed (header_of s) (read_whole s r).header).ports.1

  fresh_linked : Linked (config_of s) (fresh s)
  unfolding config_of fresh unused has_crosspoints
  fresh_linked =
      record {
        model = rw m;
        ports = refl;
        speedup = refl;
        queues = record { sized = (fresh_allowed s r).1; cap_in = λ i j. refl; cap_out = λ j. refl };
      }

  fresh_empty : Empty (config_of s) (state_of (fresh s))
  unfolding fresh unused empty_queues
  fresh_empty =
      let n = few in
      record {
        inq = λ i j li lj. get_or-replicate {A = ℕ} 256 (place i j) 0 0 (place_below i j (omega arith) (omega arith));
        outq = λ j l. get_or-replicate {A = ℕ} 16 j 0 0 (omega arith);
        crossed = refl;
        sent = refl;
      }

  -- every arrival of slot t is at a port and for a port
  ports_below_lem : (t k : ℕ) → k < arrive_in s t
      → ((arrival_of s (before s t + k)).input < (config_of s).ports) × ((arrival_of s (before s t + k)).output < (config_of s).ports)
  unfolding arrive_in config_of fresh unused
  ports_below_lem t k h = go (ltb t (header_of s).slots) refl h
    where
      go : (b : Bool) → ltb t (header_of s).slots ≡ b → k < cond b (slot_count s t) 0
          → ((arrival_of s (before s t + k)).input < (header_of s).ports) × ((arrival_of s (before s t + k)).output < (header_of s).ports)
      go true e h = arrival_ports s r (before s t + k) (omega (arith, before_few s r t (ltb-true t (header_of s).slots e)))
      go false e h = absurd (omega arith)

  -- the run, at the end of slot t
  run_keeps_linked : (t : ℕ) → Linked (config_of s) (slots s t).switch
  unfolding slots
  run_keeps_linked zero = fresh_linked
  run_keeps_linked (suc t) =
      run_keeps (config_of s) few (arrivals s (slots s t) (before s t) (slot_count s t))
      (arrivals_keep (config_of s) few s (slots s t) (before s t) (run_keeps_linked t) (slot_count s t))

  slot_arrived : (t : ℕ) → t < (header_of s).slots
      → Arrivals (config_of s) (trace_of s t).arrivals (state_of (slots s t).switch) (state_of (arrivals s (slots s t) (before s t) (slot_count s t)).switch)
  unfolding trace_of arrive_in
  slot_arrived t h =
      let c = config_of s in
      let inside : arrive_in s t ≡ slot_count s t = ap (λ (b : Bool). cond b (slot_count s t) 0) (lt-ltb t (header_of s).slots h) in
      subst (λ (n : ℕ). Arrivals c (arrivals_from s (before s t) (arrive_in s t)) (state_of (slots s t).switch) (state_of (arrivals s (slots s t) (before s t) n).switch))
      inside
      (arrivals_linked c few s (slots s t) (before s t) (run_keeps_linked t) (arrive_in s t) (ports_below_lem t))

  pub run_is_greedy : (t : ℕ) → t ≤ (header_of s).slots → Greedy (config_of s) (trace_of s) t (state_of (slots s t).switch)
  unfolding slots trace_of
  run_is_greedy zero h = start fresh_empty
  run_is_greedy (suc t) h =
      let b = arrivals s (slots s t) (before s t) (slot_count s t) in
      slot (run_is_greedy t (omega arith))
      (run_linked (config_of s) few b (arrivals_keep (config_of s) few s (slots s t) (before s t) (run_keeps_linked t) (slot_count s t))
      (trace_of s t).arrivals (state_of (slots s t).switch) (slot_arrived t h))

  -- and n slots later, which a drain has closed
  closings_keep_linked : (n : ℕ) → Linked (config_of s) (closings (whole s).switch n)
  unfolding closings whole close_step closed grown
  closings_keep_linked zero = run_keeps_linked (header_of s).slots
  closings_keep_linked (suc n) =
      run_keeps (config_of s) few (record { switch = closings (whole s).switch n; events = [] }) (closings_keep_linked n)

  none_arrived : (t : ℕ) → (header_of s).slots ≤ t → (trace_of s t).arrivals ≡ []
  unfolding trace_of arrive_in arrivals_from
  none_arrived t h = rw (le-ltb t (header_of s).slots h)

  pub drain_is_greedy : (n : ℕ) → Greedy (config_of s) (trace_of s) ((header_of s).slots + n) (state_of (closings (whole s).switch n))
  unfolding closings whole close_step closed grown trace_of
  drain_is_greedy zero = rw add-zero (run_is_greedy (header_of s).slots (omega arith))
  drain_is_greedy (suc n) =
      let w = closings (whole s).switch n in
      let t = (header_of s).slots + n in
      rw (add-suc (header_of s).slots n)
      (slot (drain_is_greedy n)
      (run_linked (config_of s) few (record { switch = w; events = [] }) (closings_keep_linked n) (trace_of s t).arrivals (state_of w)
      (rw (none_arrived t (omega arith)) none)))

  -- the run by any orders, with outputs that may not send
  module _ (orders : ℕ → ℕ → List ℕ) (rounds : (t k : ℕ) → Round (header_of s).ports (orders t k)) (may : ℕ → ℕ → Bool) where
    orders_keep : (t : ℕ) → Linked (config_of s) (slots_by orders may s t).switch
    unfolding slots_by config_of fresh unused trace_by
    orders_keep zero = fresh_linked
    orders_keep (suc t) =
        closed_keeps (config_of s) few (arrivals s (slots_by orders may s t) (before s t) (arrive_in s t))
        (arrivals_keep (config_of s) few s (slots_by orders may s t) (before s t) (orders_keep t) (arrive_in s t))
        (orders t) (rounds t) (trace_by may s t)

    pub orders_are_greedy : (t : ℕ) → Greedy (config_of s) (trace_by may s) t (state_of (slots_by orders may s t).switch)
    unfolding slots_by config_of fresh unused trace_by trace_of
    orders_are_greedy zero = start fresh_empty
    orders_are_greedy (suc t) =
        let h = slots_by orders may s t in
        slot (orders_are_greedy t)
        (closed_linked (config_of s) few (arrivals s h (before s t) (arrive_in s t))
        (arrivals_keep (config_of s) few s h (before s t) (orders_keep t) (arrive_in s t)) (orders t) (rounds t) (trace_by may s t)
        (state_of h.switch)
        (arrivals_linked (config_of s) few s h (before s t) (orders_keep t) (arrive_in s t) (ports_below_lem t)))
