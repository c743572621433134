-- How the code finds the counts of a switch: from what is held. That after a closing these are the numbers of events is a law (proofs/ClosingLaws).
use Rattle.std.specs.Prelude.{ℕ, ◌+◌, ◌-◌, min}
use Rattle.queues.specs.declared.Queues.{Queues}
use Rattle.switch.specs.declared.Switch.{Switch}
use Rattle.switch.specs.Switch.{held_out, held_cross, held_all}

-- what was sent, moved out and crossed, where q is what is left
abbrev pub sent_of : Switch → Queues → ℕ
sent_of s q = s.arrived - s.dropped - held_all q

abbrev pub outmoved_of : Switch → Queues → ℕ
outmoved_of s q = sent_of s q + held_out q

abbrev pub crossed_of : Switch → Queues → ℕ
crossed_of s q = outmoved_of s q + held_cross q

-- the switch with these queues, at a slot number, where so many crossed and came out
abbrev pub counted_as : Switch → ℕ → Queues → ℕ → ℕ → Switch
counted_as s slot q crossed outmoved =
    record {
      model = s.model;
      order = s.order;
      ports = s.ports;
      speedup = s.speedup;
      slot = slot;
      arrived = s.arrived;
      dropped = s.dropped;
      crossed = crossed;
      outmoved = outmoved;
      sent = sent_of s q;
      queues = q;
    }

abbrev pub counted : Switch → ℕ → Queues → Switch
counted s slot q = counted_as s slot q (crossed_of s q) (outmoved_of s q)

-- the same in counts of 32 bits: of a switch that is not allowed there may be more
abbrev pub counted_within : Switch → ℕ → Queues → Switch
counted_within s slot q = counted_as s slot q (min (crossed_of s q) 4294967295) (min (outmoved_of s q) 4294967295)

-- the switch after a closing that leaves q
abbrev pub settled : Switch → Queues → Switch
settled s q = counted s (s.slot + 1) q
