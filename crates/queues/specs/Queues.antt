-- Queues. All packets have equal worth, so a queue is known by its length; the queues of one kind are a list of lengths. Input queue and
-- crosspoint (i, j) stand at place i j of their lists, output queue j at j.
use Rattle.std.specs.Prelude.{ℕ, ◌+◌, ◌-◌, ◌*◌, Bool, List, get_or, set, ltb}
use Rattle.queues.specs.declared.Queues.{Queues}

unfoldable pub place : ℕ → ℕ → ℕ
place i j = i * 16 + j

-- the queue at place k is not empty
unfoldable pub waits : List ℕ → ℕ → Bool
waits l k = ltb 0 (get_or l k 0)

-- the queue at place k is not full
unfoldable pub has_room : List ℕ → List ℕ → ℕ → Bool
has_room cap l k = ltb (get_or l k 0) (get_or cap k 0)

-- one packet more in the queue at place k, and one fewer
unfoldable pub more : List ℕ → ℕ → List ℕ
more l k = set l k (get_or l k 0 + 1)

unfoldable pub fewer : List ℕ → ℕ → List ℕ
fewer l k = set l k (get_or l k 0 - 1)

-- the same switch with other lengths
unfoldable pub lengths : Queues → List ℕ → List ℕ → List ℕ → Queues
lengths q inlen outlen crosslen =
    record {
      incap = q.incap;
      outcap = q.outcap;
      crosscap = q.crosscap;
      inlen = inlen;
      outlen = outlen;
      crosslen = crosslen;
    }
