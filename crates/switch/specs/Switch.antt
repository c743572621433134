-- The switch value: what it holds, and how events change its counts (document 01, "Counts and draining").
use Rattle.std.specs.Prelude.{ℕ, ◌+◌, Bool, true, false, List, get_or}
use Rattle.base.specs.Below.{sum_below}
use Rattle.layout.specs.Header.{has_crosspoints}
use Rattle.queues.specs.declared.Queues.{Queues}
use Rattle.queues.specs.Events.{of_kind}
use Rattle.queues.specs.Slot.{Done}
use Rattle.switch.specs.declared.Switch.{Switch}

-- the packets in the queues of one kind, of which there are n
unfoldable pub packets : List ℕ → ℕ → ℕ
packets l n = sum_below (λ k. get_or l k 0) n

unfoldable pub held_in : Queues → ℕ
held_in q = packets q.inlen 256

unfoldable pub held_out : Queues → ℕ
held_out q = packets q.outlen 16

unfoldable pub held_cross : Queues → ℕ
held_cross q = packets q.crosslen 256

-- held: the sum of all queue lengths
unfoldable pub held_all : Queues → ℕ
held_all q = held_in q + held_out q + held_cross q

unfoldable pub held : Switch → ℕ
held s = held_all s.queues

-- outmoved counts kind 4, and for a model without crosspoints the same as crossed, kind 3
unfoldable pub outmoved_kind : Bool → ℕ
outmoved_kind true = 4
outmoved_kind false = 3

-- the switch after what was done, at a slot number: each count grows by the number of such events
unfoldable pub advanced : Switch → Done → ℕ → Switch
advanced s d slot =
    record {
      model = s.model;
      order = s.order;
      ports = s.ports;
      speedup = s.speedup;
      slot = slot;
      arrived = s.arrived + (of_kind 1 d.events + of_kind 2 d.events);
      dropped = s.dropped + of_kind 2 d.events;
      crossed = s.crossed + of_kind 3 d.events;
      outmoved = s.outmoved + of_kind (outmoved_kind (has_crosspoints s.model)) d.events;
      sent = s.sent + of_kind 5 d.events;
      queues = d.queues;
    }
