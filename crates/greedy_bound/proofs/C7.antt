-- Bench case C7 of the run itself: the run of its bytes sends 1 and leaves three in its output queues, so its limit is 9; and a rival, on this switch and these
-- slots, sends 4. So the claim that no rival ever has more than three times what greedy has sent, at every slot, is false. The definitions compute all
-- the numbers.
-- Assumes nothing.
use Prim.Native.Nat.{ℕ, ◌*◌, ◌≤◌}
use native.Mathlib.Omega.{arith}
use mathlib.Core.Path.{◌≡◌, refl, ap}
use mathlib.Core.List.{List}
use Rattle.base.specs.Below.{all_below, sum_below, list_below, lowest_from, lowest}
use Rattle.base.specs.Digits.{number}
use Rattle.base.specs.Refusal.{unless, ◌⨟◌}
use Rattle.layout.specs.Header.{model_allowed, order_allowed, side_allowed, count_allowed, header_refusal, has_crosspoints, capacity_count, slot_counts_at, arrivals_at, total_of, places_of}
use Rattle.layout.specs.Tables.{capacity_allowed, capacities_allowed, counts_add_up, ports_below, tables_refusal}
use Rattle.trace.specs.Reading.{header_of, capacity, slot_count, port_byte, places_right, body_refusal, reading}
use Rattle.trace.specs.Slots.{arrival_of, before}
use Rattle.queues.specs.Queues.{place, waits, has_room, more, fewer, lengths}
use Rattle.queues.specs.Events.{accepted_at, dropped_at, crossed_at, sent_at, of_kind}
use Rattle.queues.specs.Turn.{rotates, first_of, turn}
use Rattle.queues.specs.Flow.{still, flowed}
use Rattle.queues.specs.Cioq.{eligible, is_taken, choice, visited, visits, matching}
use Rattle.queues.specs.Slot.{begun, after, arrival_of as queues_arrival_of, arrival, matched, cioq_cycle, cycle_of, cycles, sent_one, sendings, free, send_over, closing}
use Rattle.switch.specs.Switch.{packets, held_out, outmoved_kind, advanced}
use Rattle.switch.specs.Allowed.{used_pair}
use Rattle.switch.specs.Making.{capacity_of_pair, input_capacities, output_capacities, crosspoint_capacities, empty_queues, unused, fresh}
use Rattle.run.specs.Run.{grown, arriving, arrivals, closed, slots, whole}
use Rattle.bound.specs.Switch.{State}
use Rattle.bound.specs.Rival.{Rival}
use Rattle.bound.proofs.C7.{Allows, plays, rival_end}
use Rattle.greedy_bound.specs.C7.{c7}
use Rattle.greedy_bound.specs.Rivalry.{config_of, arrivals_from, arrive_in, trace_of, limit_of}

-- accepted, of model 1, with one slot
pub c7_accepted : (reading c7 ≡ 0) × ((header_of c7).model ≡ 1) × ((header_of c7).slots ≡ 1)
unfolding c7 all_below sum_below number unless ◌⨟◌ model_allowed order_allowed side_allowed count_allowed header_refusal has_crosspoints capacity_count slot_counts_at arrivals_at total_of places_of capacity_allowed capacities_allowed counts_add_up ports_below tables_refusal header_of capacity slot_count port_byte places_right body_refusal reading
c7_accepted = (refl, refl, refl)

-- the run sends 1 and leaves three in its output queues: the limit is 9
pub c7_numbers : ((whole c7).switch.sent ≡ 1) × (held_out (whole c7).switch.queues ≡ 3) × (limit_of (whole c7).switch ≡ 9)
unfolding c7 sum_below list_below lowest_from lowest number has_crosspoints header_of capacity slot_count port_byte arrival_of before place waits has_room more fewer lengths accepted_at dropped_at crossed_at sent_at of_kind rotates first_of turn still flowed eligible is_taken choice visited visits matching begun after queues_arrival_of arrival matched cioq_cycle cycle_of cycles sent_one sendings free send_over closing packets held_out outmoved_kind advanced used_pair capacity_of_pair input_capacities output_capacities crosspoint_capacities empty_queues unused fresh grown arriving arrivals closed slots whole limit_of
c7_numbers = (refl, refl, refl)

-- C7's rival can play here
c7_allows : Allows (config_of c7) (trace_of c7 0)
unfolding c7 sum_below list_below number has_crosspoints header_of capacity slot_count port_byte arrival_of before place free used_pair capacity_of_pair input_capacities output_capacities crosspoint_capacities empty_queues unused fresh config_of arrivals_from arrive_in trace_of
c7_allows =
    record {
      ports = omega arith;
      speedup = refl;
      arrivals = refl;
      cap_in = omega arith;
      cap_out = omega arith;
      may_send = (refl, refl, refl, refl);
    }

-- and sends 4
pub c7_rival : Rival (config_of c7) (trace_of c7) 1 rival_end
c7_rival = plays (config_of c7) (trace_of c7) c7_allows

pub c7_rival_sends : rival_end.sent ≡ 4
c7_rival_sends = refl

-- three times the sent packets, claimed at every slot of every run, is false
pub three_times_fails : ¬ ((s : List ℕ) → reading s ≡ 0 → (header_of s).model ≡ 1 → (t : ℕ) → t ≤ (header_of s).slots → (e : State)
    → Rival (config_of s) (trace_of s) t e → e.sent ≤ 3 * (slots s t).switch.sent)
unfolding whole
three_times_fails claim =
    let ok = c7_accepted in
    let claimed = claim c7 ok.0 ok.1 1 (omega arith) rival_end c7_rival in
    omega (arith, c7_numbers.0, ap (λ (n : ℕ). (slots c7 n).switch.sent) ok.2)
