-- A switch as 1,066 words, for callers in other languages: model, order, ports, speedup, slot number, arrived, dropped, crossed, outmoved, sent; then 256 input, 16
-- output and 256 crosspoint capacities; then 256 input, 16 output and 256 crosspoint lengths; queue (i, j) at i × 16 + j.
use Rattle.std.specs.Prelude.{ℕ, ◌+◌, List, [], ◌∷◌, ◌++◌, get_or}
use Rattle.base.specs.Below.{list_below}
use Rattle.queues.specs.declared.Queues.{Queues}
use Rattle.switch.specs.declared.Switch.{Switch}

-- n words from a place on
unfoldable pub words : List ℕ → ℕ → ℕ → List ℕ
words ws from n = list_below (λ k. get_or ws (from + k) 0) n

unfoldable pub queues_of : List ℕ → Queues
queues_of ws =
    record {
      incap = words ws 10 256;
      outcap = words ws 266 16;
      crosscap = words ws 282 256;
      inlen = words ws 538 256;
      outlen = words ws 794 16;
      crosslen = words ws 810 256;
    }

-- the switch that the words are an image of
unfoldable pub switch_of : List ℕ → Switch
switch_of ws =
    record {
      model = get_or ws 0 0;
      order = get_or ws 1 0;
      ports = get_or ws 2 0;
      speedup = get_or ws 3 0;
      slot = get_or ws 4 0;
      arrived = get_or ws 5 0;
      dropped = get_or ws 6 0;
      crossed = get_or ws 7 0;
      outmoved = get_or ws 8 0;
      sent = get_or ws 9 0;
      queues = queues_of ws;
    }

-- the first ten words, and the queues
unfoldable pub numbers_of : Switch → List ℕ
numbers_of s =
    s.model
    ∷ (s.order
    ∷ (s.ports ∷ (s.speedup ∷ (s.slot ∷ (s.arrived ∷ (s.dropped ∷ (s.crossed ∷ (s.outmoved ∷ (s.sent ∷ [])))))))))

unfoldable pub queue_words : Queues → List ℕ
queue_words q = q.incap ++ (q.outcap ++ (q.crosscap ++ (q.inlen ++ (q.outlen ++ q.crosslen))))

-- the image of a switch
unfoldable pub image_of : Switch → List ℕ
image_of s = numbers_of s ++ queue_words s.queues
