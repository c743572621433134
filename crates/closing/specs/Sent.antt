-- What the sendings leave in the output queues and the log that are lent to them.
use Rattle.std.specs.Prelude.{ℕ, ◌≡◌, ◌&&◌, List, [], length}
use Rattle.queues.specs.Queues.{waits}
use Rattle.queues.specs.Events.{log_of}
use Rattle.queues.specs.Log.{logged, onward}
use Rattle.queues.specs.Slot.{Sendings, sent_one, free}

-- some sendings, `f`, as they are left
pub record Sent (f : Sendings) (outlen log kept : List ℕ) (at after : ℕ) : Type 0 where
  pub of_outlen : outlen ≡ f.outlen
  pub of_log : kept ≡ logged log at (log_of f.events)
  pub of_at : after ≡ onward (length log) at (length f.events)

-- nothing is sent yet
unfoldable pub unsent : List ℕ → Sendings
unsent outlen = record { outlen = outlen; events = [] }

-- output j sends one packet, unless it is empty
unfoldable pub send_step : Sendings → ℕ → ℕ → Sendings
send_step b slot j = sent_one (waits b.outlen j && free j) b slot j
