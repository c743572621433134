-- One cycle of the CIOQ switch, greedy matching (document 01, "One slot"; 001, section 2.1). `ports` is N, and `turn` the inputs in the
-- order in which they are visited; `inlen` and `outlen` are the queues at the start of the cycle.
use Rattle.std.specs.Prelude.{ℕ, zero, suc, Bool, true, false, not, ◌&&◌, ◌||◌, List, [], ◌∷◌, length, get_or, eqb, ltb}
use Rattle.base.specs.Below.{lowest}
use Rattle.queues.specs.Queues.{place, waits, has_room}
use Rattle.queues.specs.Events.{crossed_at}
use Rattle.queues.specs.Flow.{Flow, still, flowed}

-- (i, j) is eligible: at the start of the cycle input queue (i, j) is not empty and output queue j is not full
unfoldable pub eligible : List ℕ → List ℕ → List ℕ → ℕ → ℕ → Bool
eligible outcap inlen outlen i j = waits inlen (place i j) && has_room outcap outlen j

-- whether output j is among those taken
unfoldable pub is_taken : List ℕ → ℕ → Bool
is_taken [] j = false
is_taken (a ∷ l) j = eqb a j || is_taken l j

-- the lowest eligible output of input i that no earlier input took, or N where there is no such output
unfoldable pub choice : ℕ → List ℕ → List ℕ → List ℕ → List ℕ → ℕ → ℕ
choice ports outcap inlen outlen taken i = lowest (λ j. eligible outcap inlen outlen i j && not (is_taken taken j)) ports

-- what visiting some inputs has done: the outputs taken, and one packet moved for each
pub record Visits : Type 0 where
  pub taken : List ℕ
  pub flow : Flow

unfoldable pub visited : Bool → Visits → ℕ → ℕ → ℕ → ℕ → Visits
visited true b slot cycle i j = record { taken = j ∷ b.taken; flow = flowed b.flow (place i j) j (crossed_at slot cycle i j) }
visited false b slot cycle i j = b

-- the first u inputs in turn
unfoldable pub visits : ℕ → List ℕ → List ℕ → List ℕ → List ℕ → ℕ → ℕ → ℕ → Visits
visits ports turn outcap inlen outlen slot cycle zero = record { taken = []; flow = still inlen outlen }
visits ports turn outcap inlen outlen slot cycle (suc u) =
    let b = visits ports turn outcap inlen outlen slot cycle u in
    let i = get_or turn u 0 in
    let j = choice ports outcap inlen outlen b.taken i in
    visited (ltb j ports) b slot cycle i j

-- the whole cycle, from the input queues to the output queues
unfoldable pub matching : ℕ → List ℕ → List ℕ → List ℕ → List ℕ → ℕ → ℕ → Flow
matching ports turn outcap inlen outlen slot cycle = (visits ports turn outcap inlen outlen slot cycle (length turn)).flow
