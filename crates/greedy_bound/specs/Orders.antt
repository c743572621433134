-- Any order of visiting, and outputs that may not send: the run of a trace in which cycle k of slot t visits the inputs of a list of its own, `orders t k`, and in
-- which `may t` says which outputs may send in slot t. The run of document 01 is the one in which each list is the slot's turn and every output may send.
use Rattle.std.specs.Prelude.{ℕ, zero, suc, ◌+◌, ◌-◌, Bool, List, []}
use Rattle.base.specs.Below.{list_below}
use Rattle.trace.specs.Slots.{before}
use Rattle.queues.specs.declared.Queues.{Queues}
use Rattle.queues.specs.Slot.{Done, begun, after, cioq_cycle, sendings, send_over}
use Rattle.switch.specs.Making.{fresh}
use Rattle.run.specs.Run.{History, grown, arrivals}
use Rattle.bound.specs.Switch.{Trace}
use Rattle.greedy_bound.specs.Rivalry.{arrive_in, trace_of}

-- the first k cycles of a slot
unfoldable pub cycles_by : (ℕ → List ℕ) → Queues → ℕ → ℕ → ℕ → Done
cycles_by orders q ports slot zero = begun q
cycles_by orders q ports slot (suc k) =
    let b = cycles_by orders q ports slot k in
    after b (cioq_cycle b.queues ports (orders k) slot k)

-- the rest of a slot after its arrivals
unfoldable pub closing_by : (ℕ → List ℕ) → (ℕ → Bool) → Queues → ℕ → ℕ → ℕ → Done
closing_by orders may q ports speedup slot =
    let b = cycles_by orders q ports slot speedup in
    after b (send_over b.queues (sendings may b.queues.outlen slot ports))

unfoldable pub closed_by : (ℕ → List ℕ) → (ℕ → Bool) → History → History
closed_by orders may h =
    let w = h.switch in
    grown h (closing_by orders may w.queues w.ports w.speedup w.slot) (w.slot + 1)

-- the first t slots: those of the trace, and after its end slots without arrivals
unfoldable pub slots_by : (ℕ → ℕ → List ℕ) → (ℕ → ℕ → Bool) → List ℕ → ℕ → History
slots_by orders may s zero = record { switch = fresh s; events = [] }
slots_by orders may s (suc t) = closed_by (orders t) (may t) (arrivals s (slots_by orders may s t) (before s t) (arrive_in s t))

-- the slots that both get
unfoldable pub trace_by : (ℕ → ℕ → Bool) → List ℕ → Trace
trace_by may s t = record { arrivals = (trace_of s t).arrivals; may_send = may t }

-- an order that no trace asks for: highest first
unfoldable pub downward : ℕ → List ℕ
downward ports = list_below (λ k. ports - 1 - k) ports
