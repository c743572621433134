-- What the engine leaves in the arrays and the log that are lent to it.
use Rattle.std.specs.Prelude.{ℕ, ◌≡◌, List, length}
use Rattle.queues.specs.declared.Queues.{Queues}
use Rattle.queues.specs.declared.Went.{Went}
use Rattle.queues.specs.Events.{log_of, happened}
use Rattle.queues.specs.Log.{logged, onward}
use Rattle.queues.specs.Flow.{Flow}
use Rattle.queues.specs.Slot.{Done}

-- a part of a cycle, `f`, as it is left: the two lists of queues, the log, and the answer
pub record Left (f : Flow) (from to : List ℕ) (log kept : List ℕ) (at : ℕ) (r : Went) : Type 0 where
  pub of_from : from ≡ f.from
  pub of_to : to ≡ f.to
  pub of_log : kept ≡ logged log at (log_of f.events)
  pub of_at : r.at ≡ onward (length log) at (length f.events)
  pub of_moved : r.moved ≡ happened f.events

-- the lent arrays hold the switch's queues
pub record Held (q : Queues) (outcap crosscap inlen outlen crosslen : List ℕ) : Type 0 where
  pub of_outcap : outcap ≡ q.outcap
  pub of_crosscap : crosscap ≡ q.crosscap
  pub of_inlen : inlen ≡ q.inlen
  pub of_outlen : outlen ≡ q.outlen
  pub of_crosslen : crosslen ≡ q.crosslen

-- a cycle or a whole closing, `d`, as it is left
pub record LeftAll (d : Done) (inlen outlen crosslen : List ℕ) (log kept : List ℕ) (at after : ℕ) : Type 0 where
  pub of_inlen : inlen ≡ d.queues.inlen
  pub of_outlen : outlen ≡ d.queues.outlen
  pub of_crosslen : crosslen ≡ d.queues.crosslen
  pub of_log : kept ≡ logged log at (log_of d.events)
  pub of_at : after ≡ onward (length log) at (length d.events)
