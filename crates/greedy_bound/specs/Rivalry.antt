-- The run of a trace's bytes as the bound sees it: its switch, its slots, and what it holds and has done, all read off the run's own definitions. The rival is
-- the bound's, on this switch and these slots.
use Rattle.std.specs.Prelude.{ℕ, zero, suc, ◌+◌, ◌*◌, cond, List, [], ◌∷◌, ◌++◌, get_or, ltb}
use Rattle.trace.specs.Reading.{header_of, slot_count}
use Rattle.trace.specs.Slots.{arrival_of, before}
use Rattle.queues.specs.declared.Queues.{Queues}
use Rattle.queues.specs.Queues.{place}
use Rattle.queues.specs.Slot.{free}
use Rattle.switch.specs.declared.Switch.{Switch}
use Rattle.switch.specs.Switch.{held_out}
use Rattle.switch.specs.Making.{fresh}
use Rattle.bound.specs.Switch.{Config, Pair, ◌⇢◌, Trace, State}

-- the switch that both have: a new switch of the trace
unfoldable pub config_of : List ℕ → Config
config_of s =
    let w = fresh s in
    record {
      ports = w.ports;
      cap_in = λ i j. get_or w.queues.incap (place i j) 0;
      cap_out = λ j. get_or w.queues.outcap j 0;
      speedup = w.speedup;
    }

-- k arrivals in file order, of which the first is arrival `start` of the trace
unfoldable pub arrivals_from : List ℕ → ℕ → ℕ → List Pair
arrivals_from s start zero = []
arrivals_from s start (suc k) = arrivals_from s start k ++ (((arrival_of s (start + k)).input ⇢ (arrival_of s (start + k)).output) ∷ [])

-- how many arrivals slot t has: none after the trace's end, where a drain closes the slots
unfoldable pub arrive_in : List ℕ → ℕ → ℕ
arrive_in s t = cond (ltb t (header_of s).slots) (slot_count s t) 0

-- the slots that both get, in each of which every output may send
unfoldable pub trace_of : List ℕ → Trace
trace_of s t = record { arrivals = arrivals_from s (before s t) (arrive_in s t); may_send = free }

-- the limit, as a switch has it: three times what it has sent, and twice what stands in its output queues
unfoldable pub limit_of : Switch → ℕ
limit_of w = 3 * w.sent + 2 * held_out w.queues

-- queues, and what has been moved out of input queues and sent, as a state of the bound's
abbrev pub seen : Queues → ℕ → ℕ → State
seen q crossed sent =
    record { inq = λ i j. get_or q.inlen (place i j) 0; outq = λ j. get_or q.outlen j 0; crossed = crossed; sent = sent }

abbrev pub state_of : Switch → State
state_of w = seen w.queues w.crossed w.sent
