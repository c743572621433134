-- One slot (document 01, "One slot"): arrivals, cycles, sendings, each with the queues that it leaves and its events in order.
use Rattle.std.specs.Prelude.{ℕ, zero, suc, Bool, true, false, ◌&&◌, List, [], ◌∷◌, ◌++◌}
use Rattle.queues.specs.declared.Queues.{Queues}
use Rattle.queues.specs.Queues.{place, waits, has_room, more, fewer, lengths}
use Rattle.queues.specs.Events.{Event, accepted_at, dropped_at, sent_at}
use Rattle.queues.specs.Flow.{Flow}
use Rattle.queues.specs.Cioq.{matching}
use Rattle.queues.specs.Crossbar.{input_part, output_part}

pub record Done : Type 0 where
  pub queues : Queues
  pub events : List Event

unfoldable pub begun : Queues → Done
begun q = record { queues = q; events = [] }

-- one thing after another
unfoldable pub after : Done → Done → Done
after b c = record { queues = c.queues; events = b.events ++ c.events }

-- an arrival: accepted if that input queue is not full, otherwise dropped
unfoldable pub arrival_of : Bool → Queues → ℕ → ℕ → ℕ → Done
arrival_of true q slot i j =
    record { queues = lengths q (more q.inlen (place i j)) q.outlen q.crosslen; events = accepted_at slot i j ∷ [] }
arrival_of false q slot i j = record { queues = q; events = dropped_at slot i j ∷ [] }

unfoldable pub arrival : Queues → ℕ → ℕ → ℕ → Done
arrival q slot i j = arrival_of (has_room q.incap q.inlen (place i j)) q slot i j

-- a cycle of the CIOQ switch
unfoldable pub matched : Queues → Flow → Done
matched q f = record { queues = lengths q f.from f.to q.crosslen; events = f.events }

unfoldable pub cioq_cycle : Queues → ℕ → List ℕ → ℕ → ℕ → Done
cioq_cycle q ports turn slot cycle = matched q (matching ports turn q.outcap q.inlen q.outlen slot cycle)

-- a cycle of the crossbar: the output part comes after the whole input part and sees its moves
unfoldable pub crossed_over : Queues → Flow → Done
crossed_over q f = record { queues = lengths q f.from q.outlen f.to; events = f.events }

unfoldable pub outmoved_over : Queues → Flow → Done
outmoved_over q f = record { queues = lengths q q.inlen f.to f.from; events = f.events }

unfoldable pub crossbar_cycle : Queues → ℕ → List ℕ → ℕ → ℕ → Done
crossbar_cycle q ports turn slot cycle =
    let b = crossed_over q (input_part ports turn q.crosscap q.inlen q.crosslen slot cycle) in
    after b (outmoved_over b.queues (output_part ports turn q.outcap b.queues.crosslen b.queues.outlen slot cycle))

unfoldable pub cycle_of : Bool → Queues → ℕ → List ℕ → ℕ → ℕ → Done
cycle_of true q ports turn slot cycle = crossbar_cycle q ports turn slot cycle
cycle_of false q ports turn slot cycle = cioq_cycle q ports turn slot cycle

-- the first k cycles, of a crossbar or not
unfoldable pub cycles : Bool → Queues → ℕ → List ℕ → ℕ → ℕ → Done
cycles crossbar q ports turn slot zero = begun q
cycles crossbar q ports turn slot (suc k) =
    let b = cycles crossbar q ports turn slot k in
    after b (cycle_of crossbar b.queues ports turn slot k)

-- sendings: the output queues that are left, and the events
pub record Sendings : Type 0 where
  pub outlen : List ℕ
  pub events : List Event

unfoldable pub sent_one : Bool → Sendings → ℕ → ℕ → Sendings
sent_one true b slot j = record { outlen = fewer b.outlen j; events = b.events ++ (sent_at slot j ∷ []) }
sent_one false b slot j = b

-- the first j outputs, ascending: each that is not empty, and may send, sends one packet
unfoldable pub sendings : (ℕ → Bool) → List ℕ → ℕ → ℕ → Sendings
sendings may outlen slot zero = record { outlen = outlen; events = [] }
sendings may outlen slot (suc j) =
    let b = sendings may outlen slot j in
    sent_one (waits b.outlen j && may j) b slot j

-- every output may send
unfoldable pub free : ℕ → Bool
free j = true

unfoldable pub send_over : Queues → Sendings → Done
send_over q f = record { queues = lengths q q.inlen f.outlen q.crosslen; events = f.events }

-- the rest of a slot after its arrivals: as many cycles as the speedup, then the sendings
unfoldable pub closing : Bool → Queues → ℕ → List ℕ → ℕ → ℕ → Done
closing crossbar q ports turn speedup slot =
    let b = cycles crossbar q ports turn slot speedup in
    after b (send_over b.queues (sendings free b.queues.outlen slot ports))
