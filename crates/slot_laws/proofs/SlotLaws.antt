-- A slot, step by step: an arrival counts once, accepted or dropped; a cycle, all cycles and the closing are balanced (`Balanced`), since
-- their parts are.
-- Assumes nothing.
use Prim.Native.Nat.{ℕ, zero, suc, ◌+◌, ◌≤◌}
use native.Mathlib.Omega.{arith}
use mathlib.Core.Path.{◌≡◌, refl}
use mathlib.Core.Bool.{Bool, true, false}
use mathlib.Core.List.{List}
use lib.ListN.{length}
use Rattle.base.proofs.Sums.{total}
use Rattle.queues.specs.declared.Queues.{Queues}
use Rattle.queues.specs.Queues.{place, has_room, more, lengths}
use Rattle.queues.specs.Events.{of_kind, accepted_at, dropped_at}
use Rattle.queues.specs.Cioq.{matching}
use Rattle.queues.specs.Crossbar.{input_part, output_part}
use Rattle.queues.specs.Slot.{Done, arrival_of, arrival, cioq_cycle, crossed_over, outmoved_over, crossbar_cycle, cycle_of, cycles, free, sendings, send_over, closing}
use Rattle.slot_laws.proofs.QueueLengths.{alike_same, length_more, room_inside, within_more, total_more}
use Rattle.slot_laws.proofs.EventsLaws.{one_of_other}
use Rattle.slot_laws.proofs.SendingsLaws.{sendings_sent}
use Rattle.slot_laws.proofs.CioqLaws.{matching_part}
use Rattle.slot_laws.proofs.CrossbarLaws.{input_part_lem, output_part_lem}
use Rattle.slot_laws.proofs.Balance.{Sized, Kept, kept_same, kept_lengths, kept_sized, Balanced, balanced_none, balanced_after, matched_balanced, crossed_balanced, outmoved_balanced, sent_balanced}

-- from q an arrival comes to the queues of d, with the events of d
pub record Arrived (q : Queues) (d : Done) : Type 0 where
  pub kept : Kept q d.queues
  pub once : of_kind 1 d.events + of_kind 2 d.events ≡ 1
  pub inputs : total d.queues.inlen 256 ≡ total q.inlen 256 + of_kind 1 d.events
  pub outlen : d.queues.outlen ≡ q.outlen
  pub crosslen : d.queues.crosslen ≡ q.crosslen
  pub others : (kind : ℕ) → 3 ≤ kind → of_kind kind d.events ≡ 0
  pub events : length d.events ≡ 1

arrived_of : (t : Bool) (q : Queues) (slot i j : ℕ) → Sized q → has_room q.incap q.inlen (place i j) ≡ t → Arrived q (arrival_of t q slot i j)
unfolding arrival_of lengths of_kind accepted_at dropped_at
arrived_of true q slot i j s room =
    let k = place i j in
    record {
      kept =
          kept_lengths q (more q.inlen k) q.outlen q.crosslen
          (record { same_length = length_more q.inlen k; within = within_more q.incap q.inlen k room })
          alike_same alike_same;
      once = refl;
      inputs = total_more q.inlen k 256 (room_inside q.incap q.inlen k (omega (arith, s.incap, s.inlen)) room) (omega (arith, s.inlen));
      outlen = refl;
      crosslen = refl;
      others = λ kind h. one_of_other kind (accepted_at slot i j) (omega arith);
      events = refl;
    }
arrived_of false q slot i j s room =
    record {
      kept = kept_same q;
      once = refl;
      inputs = omega arith;
      outlen = refl;
      crosslen = refl;
      others = λ kind h. one_of_other kind (dropped_at slot i j) (omega arith);
      events = refl;
    }

pub arrival_arrived : (q : Queues) (slot i j : ℕ) → Sized q → Arrived q (arrival q slot i j)
unfolding arrival
arrival_arrived q slot i j s = arrived_of (has_room q.incap q.inlen (place i j)) q slot i j s refl

module _ (ports : ℕ) (few : ports ≤ 16) (turn : List ℕ) (slot : ℕ) where
  pub cycle_balanced : (crossbar : Bool) (q : Queues) (cycle : ℕ) → Sized q → Balanced crossbar q (cycle_of crossbar q ports turn slot cycle)
  unfolding cycle_of cioq_cycle crossbar_cycle crossed_over lengths
  cycle_balanced false q cycle s =
      let f = matching ports turn q.outcap q.inlen q.outlen slot cycle in
      matched_balanced q s f (matching_part ports turn q.outcap q.inlen q.outlen slot cycle few)
  cycle_balanced true q cycle s =
      let f = input_part ports turn q.crosscap q.inlen q.crosslen slot cycle in
      let b = crossed_over q f in
      let g = output_part ports turn q.outcap b.queues.crosslen b.queues.outlen slot cycle in
      let x = crossed_balanced q s f (input_part_lem ports turn q.crosscap q.inlen q.crosslen slot cycle) in
      let y = outmoved_balanced b.queues (kept_sized x.kept s) g (output_part_lem turn q.outcap b.queues.crosslen b.queues.outlen slot cycle ports) in
      balanced_after b (outmoved_over b.queues g) true x y

  module _ (crossbar : Bool) (q : Queues) (s : Sized q) where
    pub cycles_balanced : (k : ℕ) → Balanced crossbar q (cycles crossbar q ports turn slot k)
    unfolding cycles
    cycles_balanced zero = balanced_none crossbar q
    cycles_balanced (suc k) =
        let b = cycles crossbar q ports turn slot k in
        let x = cycles_balanced k in
        balanced_after b (cycle_of crossbar b.queues ports turn slot k) crossbar x (cycle_balanced crossbar b.queues k (kept_sized x.kept s))

    pub closing_balanced : (speedup : ℕ) → Balanced crossbar q (closing crossbar q ports turn speedup slot)
    unfolding closing
    closing_balanced speedup =
        let b = cycles crossbar q ports turn slot speedup in
        let x = cycles_balanced speedup in
        let f = sendings free b.queues.outlen slot ports in
        balanced_after b (send_over b.queues f) crossbar x
        (sent_balanced b.queues (kept_sized x.kept s) crossbar f (sendings_sent free b.queues.outlen slot ports))
