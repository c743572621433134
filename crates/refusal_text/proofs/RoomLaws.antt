-- The page that `tell` lends has room for the line of any refusal: what is written of it is the whole line.
-- Assumes nothing.
use Prim.Native.Nat.{ℕ, ◌≤◌}
use native.Mathlib.Omega.{arith}
use mathlib.Core.Path.{◌≡◌, refl}
use mathlib.Core.List.{List}
use lib.ListN.{length, take}
use lib.Dec.{eqb}
use Rattle.text.specs.Text.{Written, ascii}
use Rattle.text.proofs.RoomLaws.{Room, room_more, room_then, either_room, room_written, room_decimal, stands}
use Rattle.refusal_text.specs.Refusals.{words, refusal_line}

words_room : (n : ℕ) → Room (words n) 110
unfolding words ascii
words_room n =
    either_room (eqb n 1) (room_written (ascii "fewer than 40 bytes") 110 refl)
    (either_room (eqb n 2) (room_written (ascii "model not allowed") 110 refl)
    (either_room (eqb n 3) (room_written (ascii "order not allowed") 110 refl)
    (either_room (eqb n 4) (room_written (ascii "ports not allowed") 110 refl)
    (either_room (eqb n 5) (room_written (ascii "speedup not allowed") 110 refl)
    (either_room (eqb n 6) (room_written (ascii "slots above 4,096") 110 refl)
    (either_room (eqb n 7) (room_written (ascii "arrivals above 4,096") 110 refl)
    (either_room (eqb n 8) (room_written (ascii "an offset or the total differs from what the counts make it, or the slice's length is not the total") 110 refl)
    (either_room (eqb n 9) (room_written (ascii "a capacity not allowed") 110 refl)
    (either_room (eqb n 10) (room_written (ascii "slot counts do not add up to arrivals") 110 refl)
    (either_room (eqb n 11) (room_written (ascii "an arrival's port is N or more") 110 refl)
    (room_written (ascii "no refusal of a trace") 110 refl)))))))))))

line_room : (n : ℕ) → Room (refusal_line n) 256
unfolding refusal_line ascii
line_room n =
    room_more
    (room_then (room_then (room_then (room_then (room_written (ascii "refused ") 8 refl) (room_decimal n)) (room_written (ascii ": ") 2 refl)) (words_room n)) (room_written (ascii "\n") 1 refl))
    (omega arith)

pub whole_line : (n : ℕ) {page after : List ℕ} {next : ℕ} → 256 ≤ length page → Written page 0 (refusal_line n) after next → take next after ≡ refusal_line n
whole_line n h a = stands a (room_more (line_room n) h)
