-- A new switch (document 01, "One slot"): from a trace's header and capacities, or refused by 1 to 11 with every number in it 0. It has slot number 0 and all
-- places start empty.
use Rattle.std.specs.Prelude.{ℕ, ◌+◌, ◌*◌, ◌/◌, ◌%◌, ◌&&◌, cond, List, Result, replicate, ltb}
use Rattle.base.specs.Below.{list_below}
use Rattle.base.specs.declared.Refused.{Refused}
use Rattle.base.specs.Refusal.{judged_with}
use Rattle.layout.specs.Header.{has_crosspoints}
use Rattle.trace.specs.Reading.{header_of, capacity, reading}
use Rattle.queues.specs.declared.Queues.{Queues}
use Rattle.switch.specs.declared.Switch.{Switch}
use Rattle.switch.specs.Allowed.{used_pair}

-- the capacities in the file's order: N × N input queues, input by input, then N output queues, then the crosspoints
unfoldable pub capacity_of_pair : List ℕ → ℕ → ℕ → ℕ → ℕ
capacity_of_pair s ports from k = capacity s (from + (k / 16 * ports + k % 16))

unfoldable pub input_capacities : List ℕ → ℕ → List ℕ
input_capacities s ports = list_below (λ k. cond (used_pair ports k) (capacity_of_pair s ports 0 k) 0) 256

unfoldable pub output_capacities : List ℕ → ℕ → List ℕ
output_capacities s ports = list_below (λ j. cond (ltb j ports) (capacity s (ports * ports + j)) 0) 16

unfoldable pub crosspoint_capacities : List ℕ → ℕ → ℕ → List ℕ
crosspoint_capacities s model ports =
    list_below (λ k. cond (has_crosspoints model && used_pair ports k) (capacity_of_pair s ports (ports * ports + ports) k) 0) 256

-- queues with these capacities, all empty
unfoldable pub empty_queues : List ℕ → List ℕ → List ℕ → Queues
empty_queues incap outcap crosscap =
    record {
      incap = incap;
      outcap = outcap;
      crosscap = crosscap;
      inlen = replicate 256 0;
      outlen = replicate 16 0;
      crosslen = replicate 256 0;
    }

-- a switch at which nothing has happened
unfoldable pub unused : ℕ → ℕ → ℕ → ℕ → Queues → Switch
unused model order ports speedup q =
    record {
      model = model;
      order = order;
      ports = ports;
      speedup = speedup;
      slot = 0;
      arrived = 0;
      dropped = 0;
      crossed = 0;
      outmoved = 0;
      sent = 0;
      queues = q;
    }

unfoldable pub fresh : List ℕ → Switch
fresh s =
    let h = header_of s in
    unused h.model h.order h.ports h.speedup
    (empty_queues (input_capacities s h.ports) (output_capacities s h.ports) (crosspoint_capacities s h.model h.ports))

-- every number in it 0
unfoldable pub nought : Switch
nought = unused 0 0 0 0 (empty_queues (replicate 256 0) (replicate 16 0) (replicate 256 0))

unfoldable pub made : List ℕ → Result Switch (Refused Switch)
made s = judged_with (reading s) (fresh s) nought
