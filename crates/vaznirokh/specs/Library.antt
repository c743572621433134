-- The static library's functions, as numbers and lent runs of them (document 01, for callers in other languages). Each answers 0 or a refusal's number. A lent run of the
-- wrong length gets 30, before anything else. After a refusal every lent run holds what it held.
use Rattle.std.specs.Prelude.{ℕ, zero, suc, List, [], ◌∷◌, Result, Ok, Err, length, get_or, eqb}
use Rattle.base.specs.declared.Refused.{Refused}
use Rattle.base.specs.Refusal.{unless, ◌⨟◌, refusal_of, refusal_with}
use Rattle.layout.specs.declared.Header.{Header}
use Rattle.trace.specs.Reading.{verdict}
use Rattle.trace_write.specs.Writing.{written, written_out}
use Rattle.switch.specs.declared.Switch.{Switch}
use Rattle.switch.specs.declared.Taken.{Taken}
use Rattle.switch.specs.declared.Taken.TheVariants.{Accepted, Dropped}
use Rattle.switch.specs.declared.Arrived.{Arrived}
use Rattle.switch.specs.declared.Drain.{Drain}
use Rattle.switch.specs.declared.Drain.TheVariants.{Empty, NotEmpty}
use Rattle.switch.specs.declared.Drained.{Drained}
use Rattle.switch.specs.Making.{made}
use Rattle.switch.specs.Steps.{arrive, close}
use Rattle.switch.specs.Draining.{drain}
use Rattle.run.specs.declared.Counts.{Counts}
use Rattle.run.specs.Run.{ran, ran_log}
use Rattle.image.specs.Image.{switch_of, image_of}

-- 30 unless a lent run has the n entries that it has to have
unfoldable pub length_number : ℕ → List ℕ → ℕ
length_number n run = unless (eqb (length run) n) 30

-- what a lent run holds afterwards: the new entries where the number is 0, and what it held after a refusal
unfoldable pub settled : ℕ → List ℕ → List ℕ → List ℕ
settled zero new held = new
settled (suc n) new held = held

-- what an answer hands back, of the same kind where it is a refusal
unfoldable pub handed : {A : Type 0} → Result A (Refused A) → A
handed (Ok a) = a
handed (Err e) = e.answer

-- vaz_examine: the verdict's number, 0 or 1 to 11
unfoldable pub vaz_examine : List ℕ → ℕ
vaz_examine trace = refusal_of (verdict trace)

-- vaz_run: the six counts, where six words are lent for them, and the log
unfoldable pub count_words : Counts → List ℕ
count_words c = c.arrived ∷ (c.dropped ∷ (c.crossed ∷ (c.outmoved ∷ (c.sent ∷ (c.held ∷ [])))))

unfoldable pub vaz_run : List ℕ → List ℕ → List ℕ → ℕ
vaz_run trace log counts = length_number 6 counts ⨟ refusal_with (ran trace log)

unfoldable pub vaz_run_log : List ℕ → List ℕ → List ℕ → List ℕ
vaz_run_log trace log counts = settled (vaz_run trace log counts) (ran_log trace log) log

unfoldable pub vaz_run_counts : List ℕ → List ℕ → List ℕ → List ℕ
vaz_run_counts trace log counts = settled (vaz_run trace log counts) (count_words (handed (ran trace log))) counts

-- vaz_write: six words as a header, and the writer's answer as a number
unfoldable pub header_of_words : List ℕ → Header
header_of_words ws =
    record {
      model = get_or ws 0 0;
      order = get_or ws 1 0;
      ports = get_or ws 2 0;
      speedup = get_or ws 3 0;
      slots = get_or ws 4 0;
      arrivals = get_or ws 5 0;
    }

unfoldable pub vaz_write : List ℕ → List ℕ → List ℕ → List ℕ → List ℕ → ℕ
vaz_write header capacities counts arrivals out =
    length_number 6 header ⨟ refusal_of (written (header_of_words header) capacities counts arrivals out)

unfoldable pub vaz_write_out : List ℕ → List ℕ → List ℕ → List ℕ → List ℕ → List ℕ
vaz_write_out header capacities counts arrivals out =
    settled (vaz_write header capacities counts arrivals out) (written_out (header_of_words header) capacities counts arrivals out) out

-- vaz_new: a new switch's image, where 1,066 words are lent for it
unfoldable pub vaz_new : List ℕ → List ℕ → ℕ
vaz_new trace state = length_number 1066 state ⨟ refusal_with (made trace)

unfoldable pub vaz_new_state : List ℕ → List ℕ → List ℕ
vaz_new_state trace state = settled (vaz_new trace state) (image_of (handed (made trace))) state

-- vaz_arrive: an arrival's refusal as a number, the switch that it hands back, and 1 for accepted, 2 for dropped
unfoldable pub taken_word : Taken → ℕ
taken_word Accepted = 1
taken_word Dropped = 2

unfoldable pub arrived_switch : Result Arrived (Refused Switch) → Switch
arrived_switch (Ok a) = a.switch
arrived_switch (Err e) = e.answer

unfoldable pub arrived_word : Result Arrived (Refused Switch) → ℕ
arrived_word (Ok a) = taken_word a.taken
arrived_word (Err e) = 0

unfoldable pub vaz_arrive : List ℕ → ℕ → ℕ → List ℕ → ℕ
vaz_arrive state input output answer =
    (length_number 1066 state ⨟ length_number 1 answer) ⨟ refusal_with (arrive (switch_of state) input output)

unfoldable pub vaz_arrive_state : List ℕ → ℕ → ℕ → List ℕ → List ℕ
vaz_arrive_state state input output answer =
    settled (vaz_arrive state input output answer) (image_of (arrived_switch (arrive (switch_of state) input output))) state

unfoldable pub vaz_arrive_answer : List ℕ → ℕ → ℕ → List ℕ → List ℕ
vaz_arrive_answer state input output answer =
    settled (vaz_arrive state input output answer) (arrived_word (arrive (switch_of state) input output) ∷ []) answer

-- vaz_close: the switch after all cycles and the sending
unfoldable pub vaz_close : List ℕ → ℕ
vaz_close state = length_number 1066 state ⨟ refusal_with (close (switch_of state))

unfoldable pub vaz_close_state : List ℕ → List ℕ
vaz_close_state state = settled (vaz_close state) (image_of (handed (close (switch_of state)))) state

-- vaz_drain: a drain's refusal as a number, the switch that it hands back; 1 for empty and 0 for not; the count of quiet slots
unfoldable pub drain_word : Drain → ℕ
drain_word (Empty n) = 1
drain_word (NotEmpty n) = 0

unfoldable pub drain_quiet : Drain → ℕ
drain_quiet (Empty n) = n
drain_quiet (NotEmpty n) = n

unfoldable pub drained_switch : Result Drained (Refused Switch) → Switch
drained_switch (Ok d) = d.switch
drained_switch (Err e) = e.answer

unfoldable pub drained_words : Result Drained (Refused Switch) → List ℕ
drained_words (Ok d) = drain_word d.drain ∷ (drain_quiet d.drain ∷ [])
drained_words (Err e) = 0 ∷ (0 ∷ [])

unfoldable pub vaz_drain : List ℕ → ℕ → List ℕ → ℕ
vaz_drain state limit answer =
    (length_number 1066 state ⨟ length_number 2 answer) ⨟ refusal_with (drain (switch_of state) limit)

unfoldable pub vaz_drain_state : List ℕ → ℕ → List ℕ → List ℕ
vaz_drain_state state limit answer = settled (vaz_drain state limit answer) (image_of (drained_switch (drain (switch_of state) limit))) state

unfoldable pub vaz_drain_answer : List ℕ → ℕ → List ℕ → List ℕ
vaz_drain_answer state limit answer = settled (vaz_drain state limit answer) (drained_words (drain (switch_of state) limit)) answer
