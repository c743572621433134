-- A slot's arrivals as they come out of the part of the trace that holds them, two bytes each.
use Rattle.std.specs.Prelude.{ℕ, zero, suc, ◌+◌, ◌*◌, ◌/◌, Bool, List, length, get_or, ◌≡◌}
use Rattle.queues.specs.declared.Queues.{Queues}
use Rattle.queues.specs.Events.{log_of, of_kind}
use Rattle.queues.specs.Log.{logged, onward}
use Rattle.queues.specs.Slot.{Done, begun, after, arrival, closing}
use Rattle.run.specs.declared.Took.{Took}

-- the first k arrivals of a part
unfoldable pub takings : Queues → ℕ → List ℕ → ℕ → Done
takings q slot part zero = begun q
takings q slot part (suc k) =
    let b = takings q slot part k in
    after b (arrival b.queues slot (get_or part (2 * k) 0) (get_or part (2 * k + 1) 0))

-- a whole slot: the arrivals of its part, then the closing
unfoldable pub slot_of : Bool → Queues → ℕ → List ℕ → ℕ → ℕ → List ℕ → Done
slot_of crossbar q ports turn speedup slot part =
    let d = takings q slot part (length part / 2) in
    after d (closing crossbar d.queues ports turn speedup slot)

-- arrivals or a whole slot, `d`, as they are left in the lent queues and the log
pub record Taken (d : Done) (q : Queues) (log kept : List ℕ) (at : ℕ) (r : Took) : Type 0 where
  pub of_queues : q ≡ d.queues
  pub of_log : kept ≡ logged log at (log_of d.events)
  pub of_at : r.at ≡ onward (length log) at (length d.events)
  pub of_dropped : r.dropped ≡ of_kind 2 d.events
