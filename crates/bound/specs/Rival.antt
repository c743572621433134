-- The rival: any scheduler at all on the same switch with the same arrivals, starting empty. It may know the whole trace, refuse an arrival though there is
-- room, leave packets where they are, hold back what it could send, and discard any packet at any moment. What binds it is what binds every scheduler of the
-- model: capacities, one packet out of an input port and one into an output queue in a cycle, one packet sent by an output in a slot, and only by an
-- output that may send in it. A slot is a chain of events, and each kind of event is a constructor of `Step`.
use Rattle.std.specs.Prelude.{ℕ, zero, suc, ◌+◌, ◌-◌, ◌≤◌, ◌<◌, ◌≡◌, true, List, [], ◌∷◌}
use Rattle.bound.specs.Switch.{Config, Pair, Slot, Trace, State, empty, same, on, count}

-- where in its slot the rival stands
pub data Stage : Type 0 where
  -- the arrivals still to come
  arriving : List Pair → Stage
  -- the cycles still to come, this one included, and the inputs and the outputs used in this one
  crossing : ℕ → List ℕ → List ℕ → Stage
  -- the outputs that have sent
  sending : List ℕ → Stage

-- one packet more in input queue p
abbrev pub joins : Pair → State → State
joins p s = record { inq = λ i j. s.inq i j + on p i j; outq = s.outq; crossed = s.crossed; sent = s.sent }

-- one packet from input queue p to its output queue
abbrev pub crosses : Pair → State → State
crosses p s = record {
  inq = λ i j. s.inq i j - on p i j;
  outq = λ j. s.outq j + same p.output j;
  crossed = s.crossed + 1;
  sent = s.sent;
}

-- one packet sent from output queue b
abbrev pub departs : ℕ → State → State
departs b s = record { inq = s.inq; outq = λ j. s.outq j - same b j; crossed = s.crossed; sent = s.sent + 1 }

-- one packet less in input queue p, if it holds one
abbrev pub loses_in : Pair → State → State
loses_in p s = record { inq = λ i j. s.inq i j - on p i j; outq = s.outq; crossed = s.crossed; sent = s.sent }

-- one packet less in output queue b, if it holds one
abbrev pub loses_out : ℕ → State → State
loses_out b s = record { inq = s.inq; outq = λ j. s.outq j - same b j; crossed = s.crossed; sent = s.sent }

-- one event in a slot, from a stage and a state to the next
pub data Step (c : Config) (slot : Slot) : Stage → State → Stage → State → Type 0 where
  -- the next arrival is accepted: its queue has room
  accepted : {p : Pair} {l : List Pair} {s : State} → s.inq p.input p.output < c.cap_in p.input p.output
      → Step c slot (arriving (p ∷ l)) s (arriving l) (joins p s)
  -- the next arrival is refused, room or no room
  refused : {p : Pair} {l : List Pair} {s : State} → Step c slot (arriving (p ∷ l)) s (arriving l) s
  -- the last arrival is answered
  arrivals_end : {s : State} → Step c slot (arriving []) s (crossing c.speedup [] []) s
  -- a packet moves: neither port is used in this cycle yet, its queue is not empty and the output queue has room
  moved : (p : Pair) {k : ℕ} {ins outs : List ℕ} {s : State} → p.input < c.ports → p.output < c.ports
      → count ins p.input ≡ 0 → count outs p.output ≡ 0
      → 1 ≤ s.inq p.input p.output → s.outq p.output < c.cap_out p.output
      → Step c slot (crossing (suc k) ins outs) s (crossing (suc k) (p.input ∷ ins) (p.output ∷ outs)) (crosses p s)
  -- a cycle ends
  cycle_ends : {k : ℕ} {ins outs : List ℕ} {s : State} → Step c slot (crossing (suc k) ins outs) s (crossing k [] []) s
  -- the last cycle has ended
  cycles_end : {ins outs : List ℕ} {s : State} → Step c slot (crossing zero ins outs) s (sending []) s
  -- output j sends: it may in this slot, it has not yet, and its queue is not empty
  sent : (j : ℕ) {outs : List ℕ} {s : State} → j < c.ports → slot.may_send j ≡ true → count outs j ≡ 0 → 1 ≤ s.outq j
      → Step c slot (sending outs) s (sending (j ∷ outs)) (departs j s)
  -- a packet of an input queue is discarded, at any stage
  discarded_in : (p : Pair) {at : Stage} {s : State} → Step c slot at s at (loses_in p s)
  -- a packet of an output queue is discarded, at any stage
  discarded_out : (j : ℕ) {at : Stage} {s : State} → Step c slot at s at (loses_out j s)

infixr 20 ◌then◌
-- any number of events
pub data Steps (c : Config) (slot : Slot) : Stage → State → Stage → State → Type 0 where
  done : {a : Stage} {s : State} → Steps c slot a s a s
  ◌then◌ : {a b d : Stage} {s t u : State} → Step c slot a s b t → Steps c slot b t d u → Steps c slot a s d u

-- s is a state in which the rival can stand at the end of n slots
pub data Rival (c : Config) (trace : Trace) : ℕ → State → Type 0 where
  start : Rival c trace zero empty
  slot : {n : ℕ} {s t : State} {outs : List ℕ} → Rival c trace n s
      → Steps c (trace n) (arriving (trace n).arrivals) s (sending outs) t → Rival c trace (suc n) t
