-- The page that `main` lends has room for any report: what is written of it is the whole report.
-- Assumes nothing.
use Prim.Native.Nat.{ℕ, zero, suc, ◌≤◌}
use native.Mathlib.Omega.{arith}
use mathlib.Core.Path.{◌≡◌, refl}
use mathlib.Core.List.{List}
use lib.ListN.{length, take}
use Rattle.text.specs.Text.{Written, ascii}
use Rattle.text.proofs.RoomLaws.{Room, room_more, room_then, room_written, room_line, stands}
use Rattle.trace.specs.Reading.{reading}
use Rattle.run.specs.declared.Counts.{Counts}
use Rattle.report.specs.Report.{count_lines, totals, report_as, report_of}

count_room : (w : Counts) → Room (count_lines w) 175
unfolding count_lines ascii
count_room w =
    let arrived = room_line w.arrived (room_written (ascii "arrived") 7 refl) in
    let dropped = room_line w.dropped (room_written (ascii "dropped") 7 refl) in
    let crossed = room_line w.crossed (room_written (ascii "crossed") 7 refl) in
    let outmoved = room_line w.outmoved (room_written (ascii "outmoved") 8 refl) in
    let sent = room_line w.sent (room_written (ascii "sent") 4 refl) in
    let held = room_line w.held (room_written (ascii "held") 4 refl) in
    room_more (room_then (room_then (room_then (room_then (room_then arrived dropped) crossed) outmoved) sent) held) (omega arith)

totals_room : (w : Counts) (quiet : ℕ) → Room (totals w quiet) 238
unfolding totals ascii
totals_room w quiet =
    let loss = room_line _ (room_written (ascii "per-thousand") 12 refl) in
    let slots = room_line quiet (room_written (ascii "quiet") 5 refl) in
    room_more (room_then (room_then (count_room w) loss) slots) (omega arith)

lines_room : (n : ℕ) (s : List ℕ) → Room (report_as n s) 238
unfolding report_as ascii
lines_room zero s = totals_room _ _
lines_room (suc n) s = room_more (room_line (suc n) (room_written (ascii "refused") 7 refl)) (omega arith)

report_room : (s : List ℕ) → Room (report_of s) 512
unfolding report_of ascii
report_room s = room_more (room_then (room_written (ascii "name value\n") 11 refl) (lines_room (reading s) s)) (omega arith)

pub whole_report : (s : List ℕ) {page after : List ℕ} {next : ℕ} → 512 ≤ length page → Written page 0 (report_of s) after next → take next after ≡ report_of s
whole_report s h a = stands a (room_more (report_room s) h)
