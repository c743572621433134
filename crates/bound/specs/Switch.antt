-- What greedy matching and its rival share: the switch, the trace, and what a scheduler holds and has done. All packets have equal worth, so a queue is known by
-- its length. Ports, slots and cycles are numbered from 0.
use Rattle.std.specs.Prelude.{ℕ, zero, suc, ◌+◌, ◌*◌, Bool, List, [], ◌∷◌}

-- a switch: its number of ports N, the capacity of input queue (i, j) and of output queue j, and its cycles in a slot
pub record Config : Type 0 where
  pub ports : ℕ
  pub cap_in : ℕ → ℕ → ℕ
  pub cap_out : ℕ → ℕ
  pub speedup : ℕ

-- an input port and an output port
pub record Pair : Type 0 where
  pub input : ℕ
  pub output : ℕ

infix 60 ◌⇢◌
-- the pair (i, j)
abbrev pub ◌⇢◌ : ℕ → ℕ → Pair
i ⇢ j = record { input = i; output = j }

-- one slot: its arrivals in file order, and which outputs may send in it
pub record Slot : Type 0 where
  pub arrivals : List Pair
  pub may_send : ℕ → Bool

-- the slot of each slot number
abbrev pub Trace : Type 0
Trace = ℕ → Slot

-- what a scheduler holds in input queue (i, j) and in output queue j, how many packets it has moved out of input queues, and how many it has sent
pub record State : Type 0 where
  pub inq : ℕ → ℕ → ℕ
  pub outq : ℕ → ℕ
  pub crossed : ℕ
  pub sent : ℕ

-- nothing held and nothing done
abbrev pub empty : State
empty = record { inq = λ i j. 0; outq = λ j. 0; crossed = 0; sent = 0 }

-- 1 where a and b are the same number, otherwise 0
unfoldable pub same : ℕ → ℕ → ℕ
same zero zero = 1
same zero (suc b) = 0
same (suc a) zero = 0
same (suc a) (suc b) = same a b

-- 1 where p is the pair (i, j), otherwise 0
unfoldable pub on : Pair → ℕ → ℕ → ℕ
on p i j = same p.input i * same p.output j

-- how often k stands in a list of ports
unfoldable pub count : List ℕ → ℕ → ℕ
count [] k = 0
count (a ∷ l) k = same a k + count l k
