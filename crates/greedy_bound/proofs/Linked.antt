-- The step facts that the bound asks for, of the definitions that the contracts cite: an arrival, cycles that visit the inputs in any order, and the sendings. A
-- switch is linked to the bound's by its ports, its speedup and its capacities, which no step changes.
-- Assumes nothing.
use Prim.Native.Nat.{ℕ, zero, suc, ◌+◌, ◌≤◌, ◌<◌}
use native.Mathlib.Nat.{add-zero}
use native.Mathlib.Omega.{arith}
use mathlib.Core.Path.{◌≡◌, refl, sym, ap, ◌∙◌, subst}
use mathlib.Core.Logic.{⊎_elim, ◌≢◌}
use mathlib.Core.Bool.{Bool, true, false, ◌&&◌, cond, and-false}
use mathlib.Core.List.{List, ◌++◌}
use lib.ListN.{length, get_or, length-map}
use lib.Dec.{ltb}
use borrow.Author.Tests.{ltb-false, lt-ltb}
use Rattle.base.proofs.Below.{sum_cong}
use Rattle.base.proofs.Cases.{same_or_not}
use Rattle.queues.specs.declared.Queues.{Queues}
use Rattle.queues.specs.Queues.{place, waits, has_room, more, lengths}
use Rattle.queues.specs.Events.{of_kind}
use Rattle.queues.specs.Cioq.{eligible}
use Rattle.queues.specs.Slot.{begun, after, arrival_of, arrival, matched, cioq_cycle, cycle_of, sendings, send_over}
use Rattle.slot_laws.proofs.Balance.{Sized, Kept, kept_same, kept_then, kept_sized, sent_balanced}
use Rattle.slot_laws.proofs.CioqLaws.{pairs_of, matching_part}
use Rattle.slot_laws.proofs.EventsLaws.{none_of_kind, of_both}
use Rattle.slot_laws.proofs.GreedyLaws.{matching_greedy}
use Rattle.slot_laws.proofs.Matchings.{eligible_some}
use Rattle.slot_laws.proofs.QueueLengths.{room_some, room_inside, some_room, some_waits, more_here, more_other, place_same}
use Rattle.slot_laws.proofs.SendingsLaws.{sends_one, sendings_sent, sent_each, sent_count, sent_kind, sent_other_kind}
use Rattle.slot_laws.proofs.SlotLaws.{arrival_arrived, cycle_balanced}
use Rattle.slot_laws.proofs.TurnLaws.{Round}
use Rattle.bound.specs.Switch.{Config, Pair, ◌⇢◌, Slot, on}
use Rattle.bound.specs.Greedy.{Answer, accepted, dropped, Arrived, Eligible, Cycled, Cycles, none, ready, Sent}
use Rattle.bound.proofs.Counts.{on_self, on_other}
use Rattle.bound.proofs.History.{cycles_snoc}
use Rattle.greedy_bound.specs.Rivalry.{seen}
use Rattle.greedy_bound.specs.Orders.{cycles_by, closing_by}
use Rattle.greedy_bound.proofs.Pairs.{paired, count_inputs, count_outputs, along_times, all_legal}

-- q are queues of the switch c
pub record Queued (c : Config) (q : Queues) : Type 0 where
  pub sized : Sized q
  pub cap_in : (i j : ℕ) → get_or q.incap (place i j) 0 ≡ c.cap_in i j
  pub cap_out : (j : ℕ) → get_or q.outcap j 0 ≡ c.cap_out j

pub queued_kept : (c : Config) {q p : Queues} → Kept q p → Queued c q → Queued c p
queued_kept c k x =
    record {
      sized = kept_sized k x.sized;
      cap_in = λ i j. ap (λ (l : List ℕ). get_or l (place i j) 0) k.incap ∙ x.cap_in i j;
      cap_out = λ j. ap (λ (l : List ℕ). get_or l j 0) k.outcap ∙ x.cap_out j;
    }

-- one packet more in queue (a, b), seen from queue (i, j)
joined : (l : List ℕ) (a b i j : ℕ) → b < 16 → j < 16 → place a b < length l → get_or (more l (place a b)) (place i j) 0 ≡ get_or l (place i j) 0 + on (a ⇢ b) i j
joined l a b i j bl jl inside =
    ⊎_elim
    (λ (e : place i j ≡ place a b).
    let p = place_same i j a b jl bl e in
    rw (p.0, p.1) (omega (arith, more_here l (place a b) inside, on_self (a ⇢ b))))
    (λ (d : place i j ≢ place a b).
    omega (arith, more_other l (place a b) (place i j) d, on_other (a ⇢ b) i j (λ p. d (rw (p.0, p.1)))))
    (same_or_not (place i j) (place a b))

-- the pairs that a cycle takes
abbrev pub taken : Config → Queues → List ℕ → ℕ → ℕ → List Pair
taken c q order slot cycle = paired (pairs_of c.ports order q.outcap q.inlen q.outlen slot cycle)

module _ (c : Config) (few : c.ports ≤ 16) where
  -- an arrival is accepted exactly where there is room
  answered : (t : Bool) (q : Queues) (slot a b x y x' y' : ℕ) → Queued c q → a < c.ports → b < c.ports → has_room q.incap q.inlen (place a b) ≡ t
      → Answer c (a ⇢ b) (seen q x y) (seen (arrival_of t q slot a b).queues x' y')
  unfolding arrival_of lengths has_room
  answered true q slot a b x y x' y' k la lb room =
      accepted
      (omega (arith, room_some q.incap q.inlen (place a b) room, k.cap_in a b))
      (λ i j li lj.
      joined q.inlen a b i j (omega arith) (omega arith)
      (room_inside q.incap q.inlen (place a b) (omega (arith, k.sized.incap, k.sized.inlen)) room))
  answered false q slot a b x y x' y' k la lb full =
      dropped
      (omega (arith, ltb-false (get_or q.inlen (place a b) 0) (get_or q.incap (place a b) 0) full, k.cap_in a b))
      (λ i j li lj. refl)

  pub arrival_linked : (q : Queues) (slot a b crossed sent : ℕ) → Queued c q → a < c.ports → b < c.ports
      → (let d = arrival q slot a b in Arrived c (a ⇢ b) (seen q crossed sent) (seen d.queues (crossed + of_kind 3 d.events) (sent + of_kind 5 d.events)))
  unfolding arrival
  arrival_linked q slot a b crossed sent k la lb =
      let d = arrival q slot a b in
      let s = arrival_arrived q slot a b k.sized in
      record {
        inq =
            answered (has_room q.incap q.inlen (place a b)) q slot a b crossed sent (crossed + of_kind 3 d.events) (sent + of_kind 5 d.events)
            k la lb refl;
        outq = λ j l. ap (λ (o : List ℕ). get_or o j 0) s.outlen;
        crossed = omega (arith, s.others 3 (omega arith));
        sent = omega (arith, s.others 5 (omega arith));
      }

  -- a cycle that visits every input once, in any order, takes a maximal matching; it sends nothing
  module _ (q : Queues) (k : Queued c q) (order : List ℕ) (round : Round c.ports order) (slot cycle : ℕ) where
    can_cross : (x y i j : ℕ) → Eligible c (seen q x y) i j → eligible q.outcap q.inlen q.outlen i j ≡ true
    unfolding eligible
    can_cross x y i j e =
        rw (some_waits q.inlen (place i j) e.waits, some_room q.outcap q.outlen j (omega (arith, e.room, k.cap_out j)))

    may_cross : (x y i j : ℕ) → eligible q.outcap q.inlen q.outlen i j ≡ true → Eligible c (seen q x y) i j
    may_cross x y i j e =
        let s = eligible_some q.outcap q.inlen q.outlen i j e in
        record { waits = s.0; room = omega (arith, k.cap_out j) }

    pub cycle_linked : (crossed sent : ℕ)
        → (let d = cioq_cycle q c.ports order slot cycle in
        Cycled c (taken c q order slot cycle) (seen q crossed sent) (seen d.queues (crossed + of_kind 3 d.events) sent))
    unfolding cioq_cycle matched lengths
    cycle_linked crossed sent =
        let m = pairs_of c.ports order q.outcap q.inlen q.outlen slot cycle in
        let z = k.sized in
        let s = matching_greedy c.ports order q.outcap q.inlen q.outlen slot cycle few (omega arith) round in
        let p = matching_part c.ports order q.outcap q.inlen q.outlen slot cycle few in
        record {
          legal = all_legal c (seen q crossed sent) (λ i j e. record { input = e.0; output = e.1; eligible = may_cross crossed sent i j e.2 }) s.each;
          input_once = λ i l. omega (arith, count_inputs m i, s.input_once i);
          output_once = λ j l. omega (arith, count_outputs m j, s.output_once j);
          maximal = λ i j li lj e. omega (arith, count_inputs m i, count_outputs m j, s.maximal i j li lj (can_cross crossed sent i j e));
          inq = λ i j li lj. omega (arith, along_times m i j, s.left i j (omega arith));
          outq = λ j l. omega (arith, count_outputs m j, s.came j);
          crossed = omega (arith, p.this_kind, s.count, length-map m (λ p. p.0 ⇢ p.1));
          sent = refl;
        }

    pub cycle_unsent : of_kind 5 (cioq_cycle q c.ports order slot cycle).events ≡ 0
    unfolding cioq_cycle matched
    cycle_unsent = (matching_part c.ports order q.outcap q.inlen q.outlen slot cycle few).other_kind 5 (omega arith)

-- 1 where an output sends and 0 where it does not, as the bound and as crate slot_laws count it
ready_test : (may : Bool) (n : ℕ) → ready may n ≡ cond (ltb 0 n && may) 1 0
unfolding ready
ready_test true zero = refl
ready_test true (suc n) = rw (lt-ltb 0 (suc n) (omega arith))
ready_test false n = rw and-false

module _ (c : Config) (few : c.ports ≤ 16) (q : Queues) (x : Queued c q) (orders : ℕ → List ℕ) (rounds : (k : ℕ) → Round c.ports (orders k)) (slot : ℕ) where
  -- cycles, each with an order of its own
  pub cycles_kept : (k : ℕ) → Kept q (cycles_by orders q c.ports slot k).queues
  unfolding cycles_by begun after cycle_of
  cycles_kept zero = kept_same q
  cycles_kept (suc k) =
      let b = cycles_by orders q c.ports slot k in
      let rest = cycles_kept k in
      kept_then rest (cycle_balanced c.ports few (orders k) slot false b.queues k (kept_sized rest x.sized)).kept

  cycles_unsent : (k : ℕ) → of_kind 5 (cycles_by orders q c.ports slot k).events ≡ 0
  unfolding cycles_by begun after
  cycles_unsent zero = none_of_kind 5
  cycles_unsent (suc k) =
      let b = cycles_by orders q c.ports slot k in
      let here = cycle_unsent c few b.queues (queued_kept c (cycles_kept k) x) (orders k) (rounds k) slot k in
      omega (arith, cycles_unsent k, of_both 5 b.events (cioq_cycle b.queues c.ports (orders k) slot k).events)

  pub cycles_linked : (crossed sent k : ℕ)
      → (let d = cycles_by orders q c.ports slot k in Cycles c k (seen q crossed sent) (seen d.queues (crossed + of_kind 3 d.events) sent))
  unfolding cycles_by begun after
  cycles_linked crossed sent zero = rw (none_of_kind, add-zero) none
  cycles_linked crossed sent (suc k) =
      let b = cycles_by orders q c.ports slot k in
      let d = cioq_cycle b.queues c.ports (orders k) slot k in
      let here = cycle_linked c few b.queues (queued_kept c (cycles_kept k) x) (orders k) (rounds k) slot k (crossed + of_kind 3 b.events) sent in
      let both : crossed + of_kind 3 b.events + of_kind 3 d.events ≡ crossed + of_kind 3 (b.events ++ d.events) = omega (arith, of_both 3 b.events d.events) in
      subst (λ (n : ℕ). Cycles c (suc k) (seen q crossed sent) (seen d.queues n sent)) both (cycles_snoc c (cycles_linked crossed sent k) here)

  -- the rest of a slot: the cycles, then the sendings of the outputs that may
  module _ (here : Slot) (speedup : ℕ) where
    pub closing_kept : Kept q (closing_by orders here.may_send q c.ports speedup slot).queues
    unfolding closing_by after
    closing_kept =
        let b = cycles_by orders q c.ports slot speedup in
        let f = sendings here.may_send b.queues.outlen slot c.ports in
        let rest = cycles_kept speedup in
        kept_then rest
        (sent_balanced b.queues (kept_sized rest x.sized) false f (sendings_sent here.may_send b.queues.outlen slot c.ports)).kept

    pub sending_linked : (crossed sent : ℕ)
        → (let b = cycles_by orders q c.ports slot speedup in
        let d = closing_by orders here.may_send q c.ports speedup slot in
        Sent c here (seen b.queues (crossed + of_kind 3 b.events) sent)
        (seen d.queues (crossed + of_kind 3 d.events) (sent + of_kind 5 d.events)))
    unfolding closing_by after send_over lengths
    sending_linked crossed sent =
        let b = cycles_by orders q c.ports slot speedup in
        let o = b.queues.outlen in
        let f = sendings here.may_send o slot c.ports in
        let t = sendings_sent here.may_send o slot c.ports in
        let one : (j : ℕ) → sends_one here.may_send o j ≡ ready (here.may_send j) (get_or o j 0) = λ j. unfold waits in sym (ready_test (here.may_send j) (get_or o j 0)) in
        record {
          inq = λ i j li lj. refl;
          outq = λ j l. omega (arith, sent_each t j l, one j);
          crossed = omega (arith, of_both 3 b.events f.events, sent_other_kind t 3 (omega arith));
          sent =
              omega (
                arith,
                of_both 5 b.events f.events,
                cycles_unsent speedup,
                sent_kind t,
                sent_count t,
                sum_cong (sends_one here.may_send o) (λ j. ready (here.may_send j) (get_or o j 0)) c.ports (λ j l. one j),
              );
        }
