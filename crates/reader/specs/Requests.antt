-- A request to a reader (document 01: it "hands out the arrivals of one slot after another"), by what stands at the slot that the
-- reader remembers.
use Rattle.std.specs.Prelude.{ℕ, ◌+◌, ◌≡◌, List, [], Option, Some, None, Result, Ok, Err}
use Rattle.std.specs.Borrow.{Bor}
use Rattle.base.specs.declared.Refusal.{Refusal}
use Rattle.trace.specs.declared.Standing.{Standing}
use Rattle.trace.specs.declared.Standing.TheVariants.{Arrivals, NoMore}
use Rattle.trace.specs.Slots.{standing, slot_part}
use Rattle.reader.specs.declared.Reader.{Reader}

-- the slot to go on from, by what stood at a slot: the next one after arrivals; the same after "no more" and over a bad trace
unfoldable pub slot_from : Result Standing Refusal → ℕ → ℕ
slot_from (Ok Arrivals) slot = slot + 1
slot_from (Ok NoMore) slot = slot
slot_from (Err e) slot = slot

-- the slot to go on from after a request at a slot of a trace
unfoldable pub slot_after : List ℕ → ℕ → ℕ
slot_after s slot = slot_from (standing s slot) slot

-- the bytes that an answer hands out, none where it has no part
unfoldable pub part_of : Result (Option (Bor (List ℕ))) Refusal → List ℕ
part_of (Ok (Some part)) = part.now
part_of (Ok None) = []
part_of (Err e) = []

-- what an answer says of the slot: arrivals, no more, or the trace's refusal
unfoldable pub standing_of : Result (Option (Bor (List ℕ))) Refusal → Result Standing Refusal
standing_of (Ok (Some part)) = Ok Arrivals
standing_of (Ok None) = Ok NoMore
standing_of (Err e) = Err e

-- h answers a request to r, which leaves q: the same trace, the bytes of the slot's arrivals, what stood at the slot, and the slot to
-- go on from
pub record Answered (r q : Reader) (h : Result (Option (Bor (List ℕ))) Refusal) : Type 0 where
  pub trace : q.trace ≡ r.trace
  pub part : part_of h ≡ slot_part r.trace.now r.slot
  pub standing : standing_of h ≡ standing r.trace.now r.slot
  pub slot : q.slot ≡ slot_after r.trace.now r.slot
