-- Progress: a closing of a switch that holds anything sends something. An output that is not empty after the cycles sends, and output queues
-- do not shrink in cycles, so it is enough that some output is not empty after the first one. If all are empty before it, some packet waits
-- in an input queue or a crosspoint, every output has room, and the first cycle brings a packet to an output.
-- Assumes nothing.
use Prim.Native.Nat.{ℕ, zero, suc, ◌+◌, ◌/◌, ◌%◌, ◌≤◌, ◌<◌}
use native.Mathlib.Nat.{not-suc-le-zero}
use native.Mathlib.Omega.{arith}
use mathlib.Core.Path.{◌≡◌, refl, sym, ap, ◌∙◌, subst}
use mathlib.Core.Logic.{⊎_elim}
use mathlib.Core.Bool.{Bool, true, false}
use mathlib.Core.List.{List}
use lib.ListN.{length, get_or}
use Rattle.base.proofs.Order.{le_or_lt}
use Rattle.base.proofs.Sums.{total, sum_zero, sum_entry, sum_positive, sum_nothing}
use Rattle.queues.specs.declared.Queues.{Queues}
use Rattle.queues.specs.Queues.{place, lengths}
use Rattle.queues.specs.Events.{of_kind}
use Rattle.queues.specs.Cioq.{eligible, matching}
use Rattle.queues.specs.Crossbar.{input_part, output_part}
use Rattle.queues.specs.Slot.{begun, after, matched, cioq_cycle, crossed_over, outmoved_over, crossbar_cycle, cycle_of, cycles, free, sendings, send_over, closing}
use Rattle.slot_laws.proofs.QueueLengths.{some_waits, some_room, place_of}
use Rattle.slot_laws.proofs.EventsLaws.{of_both}
use Rattle.slot_laws.proofs.SendingsLaws.{sends_one, sendings_sent, sent_kind, sent_count}
use Rattle.slot_laws.proofs.CioqLaws.{matching_part}
use Rattle.slot_laws.proofs.CrossbarLaws.{input_part_lem, output_part_lem}
use Rattle.slot_laws.proofs.Balance.{Sized}
use Rattle.slot_laws.proofs.Filling.{Filled, Used, input_part_fills, output_part_fills, matching_fills}

-- what a switch has to be for this: each of N inputs is visited, only queues of used ports hold packets, every used output queue and, of a
-- crossbar, every used crosspoint has a capacity, and a CIOQ switch holds nothing in crosspoints
pub record Served (crossbar : Bool) (q : Queues) (ports : ℕ) (turn : List ℕ) : Type 0 where
  pub few : ports ≤ 16
  pub sized : Sized q
  pub visits : (i : ℕ) → i < ports → (u : ℕ) × (u < length turn) × (get_or turn u 0 ≡ i)
  pub inputs : Used ports q.inlen
  pub outputs : (j : ℕ) → 1 ≤ get_or q.outlen j 0 → j < ports
  pub crosspoints : Used ports q.crosslen
  pub out_room : (j : ℕ) → j < ports → 1 ≤ get_or q.outcap j 0
  pub cross_room : crossbar ≡ true → (i j : ℕ) → i < ports → j < ports → 1 ≤ get_or q.crosscap (place i j) 0
  pub apart : crossbar ≡ false → (k : ℕ) → get_or q.crosslen k 0 ≡ 0

-- some used output queue holds a packet
abbrev Outgoing : ℕ → List ℕ → Type 0
Outgoing ports outlen = (j : ℕ) × (j < ports) × (1 ≤ get_or outlen j 0)

module _ (ports : ℕ) (few : ports ≤ 16) (turn : List ℕ) (slot : ℕ) where
  -- output queues do not shrink in a cycle, nor in more of them
  pub cycle_grows : (crossbar : Bool) (q : Queues) (cycle j : ℕ) → get_or q.outlen j 0 ≤ get_or (cycle_of crossbar q ports turn slot cycle).queues.outlen j 0
  unfolding cycle_of cioq_cycle matched crossbar_cycle after crossed_over outmoved_over lengths
  cycle_grows false q cycle j = (matching_part ports turn q.outcap q.inlen q.outlen slot cycle few).to_grows j
  cycle_grows true q cycle j =
      let f = input_part ports turn q.crosscap q.inlen q.crosslen slot cycle in
      (output_part_lem turn q.outcap f.to q.outlen slot cycle ports).to_grows j

  cycles_outgoing : (crossbar : Bool) (q : Queues) (k : ℕ) → Outgoing ports (cycles crossbar q ports turn slot 1).queues.outlen
      → Outgoing ports (cycles crossbar q ports turn slot (suc k)).queues.outlen
  unfolding cycles after
  cycles_outgoing crossbar q zero o = o
  cycles_outgoing crossbar q (suc k) o =
      let rest = cycles_outgoing crossbar q k o in
      (rest.0, rest.1, omega (arith, rest.2, cycle_grows crossbar (cycles crossbar q ports turn slot (suc k)).queues (suc k) rest.0))

  -- an output that holds a packet sends it
  sendings_send : (outlen : List ℕ) → Outgoing ports outlen → 1 ≤ of_kind 5 (sendings free outlen slot ports).events
  unfolding free
  sendings_send outlen o =
      let s = sendings_sent free outlen slot ports in
      let here : sends_one free outlen o.0 ≡ 1 = rw (some_waits outlen o.0 o.2) in
      omega (arith, sent_kind s, sent_count s, sum_entry (sends_one free outlen) ports o.0 o.1)

module _ (q : Queues) (ports : ℕ) (turn : List ℕ) (slot : ℕ) (crossbar : Bool) (s : Served crossbar q ports turn) where
  -- a place between used ports is that of a visited input
  located : (k : ℕ) → (k / 16 < ports) × (k % 16 < ports) → (u : ℕ) × (u < length turn) × (place (get_or turn u 0) (k % 16) ≡ k)
  located k used =
      let v = s.visits (k / 16) used.0 in
      (v.0, v.1, ap (λ (i : ℕ). place i (k % 16)) v.2 ∙ sym (place_of k))

  -- outputs that are all empty all have room
  all_room : total q.outlen 16 ≡ 0 → (j : ℕ) → j < ports → get_or q.outlen j 0 < get_or q.outcap j 0
  all_room e j h =
      let few = s.few in
      omega (arith, sum_nothing (λ x. get_or q.outlen x 0) 16 j e (omega arith), s.out_room j h)

  -- a packet at place k of the input queues
  module _ (cycle k : ℕ) (some : 1 ≤ get_or q.inlen k 0) where
    input_matched : total q.outlen 16 ≡ 0 → Outgoing ports (matching ports turn q.outcap q.inlen q.outlen slot cycle).to
    unfolding eligible
    input_matched e =
        let used = s.inputs k some in
        let a = located k used in
        let room = some_room q.outcap q.outlen (k % 16) (all_room e (k % 16) used.1) in
        matching_fills ports turn q.outcap q.inlen q.outlen slot cycle s.few (omega (arith, s.sized.outcap, s.sized.outlen))
        a.0 (k % 16) a.1 used.1 (rw (a.2, some_waits q.inlen k some, room))

    input_crossed : crossbar ≡ true → get_or q.crosslen k 0 ≡ 0 → Filled ports (input_part ports turn q.crosscap q.inlen q.crosslen slot cycle).to
    input_crossed x e =
        let used = s.inputs k some in
        let a = located k used in
        let cap = subst (λ (m : ℕ). 1 ≤ get_or q.crosscap m 0) (sym (place_of k)) (s.cross_room x (k / 16) (k % 16) used.0 used.1) in
        input_part_fills ports turn q.crosscap q.inlen q.crosslen slot cycle s.few (omega (arith, s.sized.crosscap, s.sized.crosslen)) s.inputs
        a.0 (k % 16) a.1 used.1 (rw a.2 some) (rw a.2 (omega arith))

  -- a packet at place k of the crosspoints stays there in the input part
  crosspoint_kept : (cycle k : ℕ) → 1 ≤ get_or q.crosslen k 0 → Filled ports (input_part ports turn q.crosscap q.inlen q.crosslen slot cycle).to
  crosspoint_kept cycle k some =
      let l = (input_part ports turn q.crosscap q.inlen q.crosslen slot cycle).to in
      let used = s.crosspoints k some in
      let now : 1 ≤ get_or l k 0 = omega (arith, (input_part_lem ports turn q.crosscap q.inlen q.crosslen slot cycle).to_grows k) in
      (k / 16, k % 16, used.0, used.1, subst (λ (m : ℕ). 1 ≤ get_or l m 0) (place_of k) now)

  -- after the input part some crosspoint holds a packet, and after the output part some output
  crosspoint_filled : (cycle : ℕ) → crossbar ≡ true → 1 ≤ total q.inlen 256 + total q.crosslen 256
      → Filled ports (input_part ports turn q.crosscap q.inlen q.crosslen slot cycle).to
  crosspoint_filled cycle x some =
      ⊎_elim
      (λ (h : 1 ≤ total q.crosslen 256). let p = sum_positive (λ k. get_or q.crosslen k 0) 256 h in crosspoint_kept cycle p.0 p.2)
      (λ (h : total q.crosslen 256 < 1).
      let p = sum_positive (λ k. get_or q.inlen k 0) 256 (omega arith) in
      input_crossed cycle p.0 p.2 x (sum_nothing (λ k. get_or q.crosslen k 0) 256 p.0 (omega arith) p.1))
      (le_or_lt 1 (total q.crosslen 256))

  crosspoint_outgoing : (cycle : ℕ) (l : List ℕ) → Filled ports l → total q.outlen 16 ≡ 0
      → Outgoing ports (output_part ports turn q.outcap l q.outlen slot cycle).to
  crosspoint_outgoing cycle l c e =
      let v = s.visits c.0 c.2 in (
        c.1,
        c.3,
        output_part_fills turn q.outcap l q.outlen slot cycle (omega (arith, s.sized.outcap, s.sized.outlen)) v.0 c.1 v.1
            (rw v.2 c.4) (all_room e c.1 c.3) ports s.few c.3,
      )

module _ (q : Queues) (ports : ℕ) (turn : List ℕ) (slot : ℕ) where
  -- one cycle, where all outputs are empty
  first_move : (crossbar : Bool) → Served crossbar q ports turn → (cycle : ℕ) → 1 ≤ total q.inlen 256 + total q.crosslen 256
      → total q.outlen 16 ≡ 0 → Outgoing ports (cycle_of crossbar q ports turn slot cycle).queues.outlen
  unfolding cycle_of cioq_cycle matched crossbar_cycle after crossed_over outmoved_over lengths
  first_move false s cycle some e =
      let none = sum_zero (λ k. get_or q.crosslen k 0) 256 (λ k h. s.apart refl k) in
      let p = sum_positive (λ k. get_or q.inlen k 0) 256 (omega arith) in
      input_matched q ports turn slot false s cycle p.0 p.2 e
  first_move true s cycle some e =
      let l = (input_part ports turn q.crosscap q.inlen q.crosslen slot cycle).to in
      crosspoint_outgoing q ports turn slot true s cycle l (crosspoint_filled q ports turn slot true s cycle refl some) e

  module _ (crossbar : Bool) (s : Served crossbar q ports turn) (some : 1 ≤ total q.inlen 256 + total q.outlen 16 + total q.crosslen 256) where
    first_outgoing : (cycle : ℕ) → Outgoing ports (cycle_of crossbar q ports turn slot cycle).queues.outlen
    first_outgoing cycle =
        ⊎_elim
        (λ (h : 1 ≤ total q.outlen 16).
        let p = sum_positive (λ j. get_or q.outlen j 0) 16 h in
        (p.0, s.outputs p.0 p.2, omega (arith, p.2, cycle_grows ports s.few turn slot crossbar q cycle p.0)))
        (λ (h : total q.outlen 16 < 1). first_move crossbar s cycle (omega arith) (omega arith))
        (le_or_lt 1 (total q.outlen 16))

    pub closing_sends : (speedup : ℕ) → 1 ≤ speedup → 1 ≤ of_kind 5 (closing crossbar q ports turn speedup slot).events
    unfolding closing after cycles begun send_over
    closing_sends zero h = absurd (not-suc-le-zero h)
    closing_sends (suc k) h =
        let b = cycles crossbar q ports turn slot (suc k) in
        let o = cycles_outgoing ports s.few turn slot crossbar q k (first_outgoing 0) in
        let f = sendings free b.queues.outlen slot ports in
        omega (arith, of_both 5 b.events f.events, sendings_send ports s.few turn slot b.queues.outlen o)
