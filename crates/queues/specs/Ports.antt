-- What of a lent slot counts: of more than 16 ports the first 16, and as many of the inputs in turn.
use Rattle.std.specs.Prelude.{ℕ, List, min, take}
use Rattle.queues.specs.declared.Slot.{Slot}

abbrev pub ports_in : Slot → ℕ
ports_in slot = min slot.ports 16

abbrev pub inputs_in : Slot → List ℕ
inputs_in slot = take (ports_in slot) slot.turn.now
