-- What a part of a cycle does: packets move from the queues of one kind to those of another, with an event for each.
use Rattle.std.specs.Prelude.{ℕ, List, [], ◌∷◌, ◌++◌}
use Rattle.queues.specs.Queues.{more, fewer}
use Rattle.queues.specs.Events.{Event}

pub record Flow : Type 0 where
  pub from : List ℕ
  pub to : List ℕ
  pub events : List Event

-- nothing has moved yet
unfoldable pub still : List ℕ → List ℕ → Flow
still from to = record { from = from; to = to; events = [] }

-- one packet moves from place k of the one to place m of the other
unfoldable pub flowed : Flow → ℕ → ℕ → Event → Flow
flowed b k m e = record { from = fewer b.from k; to = more b.to m; events = b.events ++ (e ∷ []) }
