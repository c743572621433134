-- The two steps (document 01, "One slot"): take one arrival, and close the slot. Each takes the switch as a value and hands the next one back; a
-- refusal hands it back exactly as it came.
use Rattle.std.specs.Prelude.{ℕ, ◌+◌, Bool, true, false, ◌&&◌, Result, ltb}
use Rattle.base.specs.declared.Refused.{Refused}
use Rattle.base.specs.Refusal.{unless, ◌⨟◌, judged_with}
use Rattle.layout.specs.Header.{has_crosspoints}
use Rattle.queues.specs.Queues.{place, has_room}
use Rattle.queues.specs.Turn.{turn}
use Rattle.queues.specs.Slot.{arrival, closing}
use Rattle.switch.specs.declared.Switch.{Switch}
use Rattle.switch.specs.declared.Taken.{Taken}
use Rattle.switch.specs.declared.Taken.TheVariants.{Accepted, Dropped}
use Rattle.switch.specs.declared.Arrived.{Arrived}
use Rattle.switch.specs.Switch.{advanced}
use Rattle.switch.specs.Allowed.{switch_allowed}

-- arrival: 13, 11, 14
unfoldable pub arrive_refusal : Switch → ℕ → ℕ → ℕ
arrive_refusal s i j =
    unless (switch_allowed s) 13
    ⨟ unless (ltb i s.ports && ltb j s.ports) 11
    ⨟ unless (ltb s.arrived 4096) 14

unfoldable pub taking : Bool → Taken
taking true = Accepted
taking false = Dropped

-- one arrival at input i for output j, in the switch's slot
unfoldable pub arrive_step : Switch → ℕ → ℕ → Switch
arrive_step s i j = advanced s (arrival s.queues s.slot i j) s.slot

unfoldable pub arrived : Switch → ℕ → ℕ → Arrived
arrived s i j = record { taken = taking (has_room s.queues.incap s.queues.inlen (place i j)); switch = arrive_step s i j }

unfoldable pub arrive : Switch → ℕ → ℕ → Result Arrived (Refused Switch)
arrive s i j = judged_with (arrive_refusal s i j) (arrived s i j) s

-- closing: 13, 15
unfoldable pub close_refusal : Switch → ℕ
close_refusal s = unless (switch_allowed s) 13 ⨟ unless (ltb s.slot 8192) 15

-- all cycles, then sending; the slot number rises by one
unfoldable pub close_step : Switch → Switch
close_step s =
    advanced s
    (closing (has_crosspoints s.model) s.queues s.ports (turn s.order s.ports s.slot) s.speedup s.slot)
    (s.slot + 1)

unfoldable pub close : Switch → Result Switch (Refused Switch)
close s = judged_with (close_refusal s) (close_step s) s
