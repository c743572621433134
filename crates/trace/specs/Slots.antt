-- One slot's arrivals and the part of the trace that holds them (document 01: the reader "hands out the arrivals of one slot after
-- another").
use Rattle.std.specs.Prelude.{ℕ, ◌+◌, ◌*◌, cond, List, [], Result, Ok, Err, take, drop, ltb}
use Rattle.base.specs.Below.{sum_below}
use Rattle.base.specs.declared.Refusal.{Refusal}
use Rattle.layout.specs.declared.Header.{Header}
use Rattle.trace.specs.declared.Ports.{Ports}
use Rattle.trace.specs.declared.Standing.{Standing}
use Rattle.trace.specs.declared.Standing.TheVariants.{Arrivals, NoMore}
use Rattle.trace.specs.Reading.{word, slot_count, port_byte, verdict}

-- arrival a, input port and output port
unfoldable pub arrival_of : List ℕ → ℕ → Ports
arrival_of s a = record { input = port_byte s (2 * a); output = port_byte s (2 * a + 1) }

-- how many arrivals stand before slot t
unfoldable pub before : List ℕ → ℕ → ℕ
before s t = sum_below (slot_count s) t

-- the bytes of slot t's arrivals, where `start` arrivals stand before it
unfoldable pub part_from : List ℕ → ℕ → ℕ → List ℕ
part_from s t start = take (2 * slot_count s t) (drop (word s 32 + 2 * start) s)

-- what stands at slot t: a bad trace's refusal; no more, where t is not below the slots; or arrivals to hand out
unfoldable pub standing_in : Result Header Refusal → ℕ → Result Standing Refusal
standing_in (Ok h) t = Ok (cond (ltb t h.slots) Arrivals NoMore)
standing_in (Err e) t = Err e

unfoldable pub standing : List ℕ → ℕ → Result Standing Refusal
standing s t = standing_in (verdict s) t

-- the bytes of slot t's arrivals, and none where there is nothing to hand out
unfoldable pub part_at : Result Standing Refusal → List ℕ → ℕ → List ℕ
part_at (Ok Arrivals) s t = part_from s t (before s t)
part_at (Ok NoMore) s t = []
part_at (Err e) s t = []

unfoldable pub slot_part : List ℕ → ℕ → List ℕ
slot_part s t = part_at (standing s t) s t
