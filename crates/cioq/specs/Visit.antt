-- One visit of an input, as the code makes it: on the queues as they are now, with a flag for each output that was taken.
use Rattle.std.specs.Prelude.{ℕ, ◌≡◌, Bool, true, false, not, cond, ◌&&◌, List, length, get_or, set, ltb}
use Rattle.base.specs.Below.{lowest}
use Rattle.queues.specs.declared.Went.{Went}
use Rattle.queues.specs.Queues.{place, more, fewer}
use Rattle.queues.specs.Events.{word, crossed_at}
use Rattle.queues.specs.Log.{entered, onward}
use Rattle.queues.specs.Cioq.{eligible}

-- input i may take output j: a packet waits, there is room for it, and no flag is up
unfoldable pub may_take : List ℕ → List ℕ → List ℕ → List Bool → ℕ → ℕ → Bool
may_take outcap inlen outlen flags i j = eligible outcap inlen outlen i j && not (get_or flags j false)

-- the lowest such output, or N where there is none
unfoldable pub chosen : ℕ → List ℕ → List ℕ → List ℕ → List Bool → ℕ → ℕ
chosen ports outcap inlen outlen flags i = lowest (may_take outcap inlen outlen flags i) ports

-- what a visit leaves of the queues, the flags, the log and the answer so far: a packet moved from input i to output j, or all as it was
pub record Visited (moves : Bool) (slot cycle i j : ℕ) (inlen outlen : List ℕ) (flags : List Bool) (log : List ℕ) (w : Went)
    (inlen' outlen' : List ℕ) (flags' : List Bool) (log' : List ℕ) (r : Went) : Type 0 where
  pub of_from : inlen' ≡ cond moves (fewer inlen (place i j)) inlen
  pub of_to : outlen' ≡ cond moves (more outlen j) outlen
  pub of_flags : flags' ≡ cond moves (set flags j true) flags
  pub of_log : log' ≡ cond moves (entered log w.at (word (crossed_at slot cycle i j))) log
  pub of_at : r.at ≡ cond moves (onward (length log) w.at 1) w.at
  pub of_moved : r.moved ≡ cond moves true w.moved

-- the same by the output j that was chosen, where N means none
abbrev pub VisitedTo : ℕ → ℕ → ℕ → ℕ → ℕ → List ℕ → List ℕ → List Bool → List ℕ → Went → List ℕ → List ℕ → List Bool → List ℕ → Went → Type 0
VisitedTo ports j = λ slot cycle i. Visited (ltb j ports) slot cycle i j
