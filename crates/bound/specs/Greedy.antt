-- Greedy matching, by what its steps do: an arrival is accepted exactly where there is room, a cycle moves a matching that is maximal, and every output that
-- may send and is not empty sends. Nothing is said of how the matching is found, so any order of visiting the inputs, another one for each cycle too, is
-- covered. Each fact speaks of ports below N only. A history is built as an engine runs, step after step: what an engine has to bring is its states, read as
-- `State`s, and one record for each of its steps.
use Rattle.std.specs.Prelude.{ℕ, zero, suc, ◌+◌, ◌*◌, ◌≤◌, ◌<◌, ◌≡◌, Bool, true, false, List, [], ◌∷◌, map, length}
use Rattle.base.specs.Below.{sum_below}
use Rattle.bound.specs.Switch.{Config, Pair, Slot, Trace, State, on, count}

-- nothing held and nothing done
pub record Empty (c : Config) (g : State) : Type 0 where
  pub inq : (i j : ℕ) → i < c.ports → j < c.ports → g.inq i j ≡ 0
  pub outq : (j : ℕ) → j < c.ports → g.outq j ≡ 0
  pub crossed : g.crossed ≡ 0
  pub sent : g.sent ≡ 0

-- what an arrival for p does to the input queues: it is accepted if that queue is not full, otherwise dropped
pub data Answer (c : Config) (p : Pair) (g h : State) : Type 0 where
  accepted : g.inq p.input p.output < c.cap_in p.input p.output
      → ((i j : ℕ) → i < c.ports → j < c.ports → h.inq i j ≡ g.inq i j + on p i j) → Answer c p g h
  dropped : c.cap_in p.input p.output ≤ g.inq p.input p.output
      → ((i j : ℕ) → i < c.ports → j < c.ports → h.inq i j ≡ g.inq i j) → Answer c p g h

-- an arrival for p takes g to h
pub record Arrived (c : Config) (p : Pair) (g h : State) : Type 0 where
  pub inq : Answer c p g h
  pub outq : (j : ℕ) → j < c.ports → h.outq j ≡ g.outq j
  pub crossed : h.crossed ≡ g.crossed
  pub sent : h.sent ≡ g.sent

-- the input ports and the output ports of a list of pairs
abbrev pub inputs : List Pair → List ℕ
inputs l = map (λ p. p.input) l

abbrev pub outputs : List Pair → List ℕ
outputs l = map (λ p. p.output) l

-- how often (i, j) stands in a list of pairs
unfoldable pub along : List Pair → ℕ → ℕ → ℕ
along [] i j = 0
along (p ∷ l) i j = on p i j + along l i j

-- a pair is eligible: input queue (i, j) is not empty and output queue j is not full
pub record Eligible (c : Config) (g : State) (i j : ℕ) : Type 0 where
  pub waits : 1 ≤ g.inq i j
  pub room : g.outq j < c.cap_out j

-- a pair that a cycle from g may take: its ports exist, and it is eligible at the start of the cycle
pub record Legal (c : Config) (g : State) (p : Pair) : Type 0 where
  pub input : p.input < c.ports
  pub output : p.output < c.ports
  pub eligible : Eligible c g p.input p.output

-- each pair of a list is legal
pub data AllLegal (c : Config) (g : State) : List Pair → Type 0 where
  none : AllLegal c g []
  more : {p : Pair} {l : List Pair} → Legal c g p → AllLegal c g l → AllLegal c g (p ∷ l)

-- a cycle that takes the pairs of m, and one packet along each, takes g to h: m has each input and each output at most once, and of each eligible pair it has
-- the input or the output
pub record Cycled (c : Config) (m : List Pair) (g h : State) : Type 0 where
  pub legal : AllLegal c g m
  pub input_once : (i : ℕ) → i < c.ports → count (inputs m) i ≤ 1
  pub output_once : (j : ℕ) → j < c.ports → count (outputs m) j ≤ 1
  pub maximal : (i j : ℕ) → i < c.ports → j < c.ports → Eligible c g i j → 1 ≤ count (inputs m) i + count (outputs m) j
  pub inq : (i j : ℕ) → i < c.ports → j < c.ports → h.inq i j + along m i j ≡ g.inq i j
  pub outq : (j : ℕ) → j < c.ports → h.outq j ≡ g.outq j + count (outputs m) j
  pub crossed : h.crossed ≡ g.crossed + length m
  pub sent : h.sent ≡ g.sent

-- 1 where an output may send and its queue is not empty, otherwise 0
unfoldable pub ready : Bool → ℕ → ℕ
ready true (suc n) = 1
ready true zero = 0
ready false n = 0

-- how many packets, 1 or 0, output j sends at the end of the slot
abbrev pub sends : Slot → State → ℕ → ℕ
sends slot g j = ready (slot.may_send j) (g.outq j)

-- the sending at the end of the slot takes g to h
pub record Sent (c : Config) (slot : Slot) (g h : State) : Type 0 where
  pub inq : (i j : ℕ) → i < c.ports → j < c.ports → h.inq i j ≡ g.inq i j
  pub outq : (j : ℕ) → j < c.ports → h.outq j + sends slot g j ≡ g.outq j
  pub crossed : h.crossed ≡ g.crossed
  pub sent : h.sent ≡ g.sent + sum_below (sends slot g) c.ports

-- arrivals, in this order
pub data Arrivals (c : Config) : List Pair → State → State → Type 0 where
  none : {g : State} → Arrivals c [] g g
  more : {p : Pair} {l : List Pair} {g h e : State} → Arrived c p g h → Arrivals c l h e → Arrivals c (p ∷ l) g e

-- so many cycles, each with a matching of its own
pub data Cycles (c : Config) : ℕ → State → State → Type 0 where
  none : {g : State} → Cycles c zero g g
  more : {m : List Pair} {k : ℕ} {g h e : State} → Cycled c m g h → Cycles c k h e → Cycles c (suc k) g e

-- one slot takes g to e: its arrivals, then as many cycles as the speedup, then the sending
pub record Passed (c : Config) (slot : Slot) (g e : State) : Type 0 where
  pub loaded : State
  pub matched : State
  pub arrivals : Arrivals c slot.arrivals g loaded
  pub cycles : Cycles c c.speedup loaded matched
  pub sending : Sent c slot matched e

-- g is a state in which greedy matching can stand at the end of n slots
pub data Greedy (c : Config) (trace : Trace) : ℕ → State → Type 0 where
  start : {g : State} → Empty c g → Greedy c trace zero g
  slot : {n : ℕ} {g e : State} → Greedy c trace n g → Passed c (trace n) g e → Greedy c trace (suc n) e

-- the limit: three times what greedy has sent, and twice what stands in its output queues
unfoldable pub limit : Config → State → ℕ
limit c g = 3 * g.sent + 2 * sum_below g.outq c.ports
