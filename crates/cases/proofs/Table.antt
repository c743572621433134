-- The definitions find what each row of the table says: one statement, which antt computes. So that it does, the theorem opens every definition that a run and a
-- drain rest on.
-- Assumes nothing.
use mathlib.Core.Path.{◌≡◌, refl}
use mathlib.Core.List.{map}
use Rattle.base.specs.Below.{all_below, sum_below, list_below, lowest_from, lowest}
use Rattle.base.specs.Digits.{number}
use Rattle.base.specs.Refusal.{unless, ◌⨟◌, number as number_of, numbered, judged_with, refusal_with}
use Rattle.layout.specs.Header.{model_allowed, order_allowed, side_allowed, count_allowed, header_refusal, has_crosspoints, capacity_count, slot_counts_at, arrivals_at, total_of, places_of}
use Rattle.layout.specs.Tables.{capacity_allowed, capacities_allowed, counts_add_up, ports_below, tables_refusal}
use Rattle.trace.specs.Reading.{header_of, capacity, slot_count, port_byte, places_right, body_refusal, reading}
use Rattle.trace.specs.Slots.{arrival_of, before}
use Rattle.queues.specs.Queues.{place, waits, has_room, more, fewer, lengths}
use Rattle.queues.specs.Events.{word, log_of, accepted_at, dropped_at, crossed_at, outmoved_at, sent_at, of_kind}
use Rattle.queues.specs.Turn.{rotates, first_of, turn}
use Rattle.queues.specs.Flow.{still, flowed}
use Rattle.queues.specs.Cioq.{eligible, is_taken, choice, visited, visits, matching}
use Rattle.queues.specs.Crossbar.{crossing, crossed_one, crossings, input_part, outmover, outmoved_one, outmoves, output_part}
use Rattle.queues.specs.Slot.{begun, after, arrival_of as queues_arrival_of, arrival, matched, cioq_cycle, crossed_over, outmoved_over, crossbar_cycle, cycle_of, cycles, sent_one, sendings, free, send_over, closing}
use Rattle.switch.specs.Switch.{packets, held_in, held_out, held_cross, held_all, held, outmoved_kind, advanced}
use Rattle.switch.specs.Allowed.{used_pair, queue_allowed, queues_allowed, counts_agree, switch_allowed}
use Rattle.switch.specs.Steps.{close_step}
use Rattle.switch.specs.Draining.{drain_refusal, closings, quiet, drained_as, drained, drain}
use Rattle.switch.specs.Making.{capacity_of_pair, input_capacities, output_capacities, crosspoint_capacities, empty_queues, unused, fresh}
use Rattle.run.specs.Run.{grown, arriving, arrivals, closed, slots, whole, words_each, room_needed, running, counts_of, no_counts, log_as, ran, ran_log}
use Rattle.loss.specs.Loss.{per_thousand}
use Rattle.cases.specs.Cases.{Row, find, table}

pub cases_hold : map (λ (r : Row). find r.file r.room r.limit) table ≡ map (λ (r : Row). r.found) table
unfolding find table all_below sum_below list_below lowest_from lowest number unless ◌⨟◌ number_of numbered judged_with refusal_with model_allowed order_allowed side_allowed count_allowed header_refusal has_crosspoints capacity_count slot_counts_at arrivals_at total_of places_of capacity_allowed capacities_allowed counts_add_up ports_below tables_refusal header_of capacity slot_count port_byte places_right body_refusal reading arrival_of before place waits has_room more fewer lengths word log_of accepted_at dropped_at crossed_at outmoved_at sent_at of_kind rotates first_of turn still flowed eligible is_taken choice visited visits matching crossing crossed_one crossings input_part outmover outmoved_one outmoves output_part begun after queues_arrival_of arrival matched cioq_cycle crossed_over outmoved_over crossbar_cycle cycle_of cycles sent_one sendings free send_over closing packets held_in held_out held_cross held_all held outmoved_kind advanced used_pair queue_allowed queues_allowed counts_agree switch_allowed close_step drain_refusal closings quiet drained_as drained drain capacity_of_pair input_capacities output_capacities crosspoint_capacities empty_queues unused fresh grown arriving arrivals closed slots whole words_each room_needed running counts_of no_counts log_as ran ran_log per_thousand
cases_hold = refl
