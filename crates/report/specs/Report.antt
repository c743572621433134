-- The report on a trace (document 01, "Bench cases"): a line for each number, or the trace's refusal.
use Rattle.std.specs.Prelude.{ℕ, zero, suc, List, ◌++◌, Result, Ok, Err}
use Rattle.base.specs.declared.Refused.{Refused}
use Rattle.base.specs.Refusal.{number}
use Rattle.text.specs.Text.{ascii, line}
use Rattle.trace.specs.Reading.{reading}
use Rattle.switch.specs.declared.Switch.{Switch}
use Rattle.switch.specs.declared.Drain.{Drain}
use Rattle.switch.specs.declared.Drain.TheVariants.{Empty, NotEmpty}
use Rattle.switch.specs.declared.Drained.{Drained}
use Rattle.switch.specs.Draining.{quiet}
use Rattle.run.specs.declared.Counts.{Counts}
use Rattle.run.specs.Run.{whole, counts_of}
use Rattle.loss.specs.Loss.{per_thousand}

-- the counts
unfoldable pub count_lines : Counts → List ℕ
count_lines counts =
    line (ascii "arrived") counts.arrived
    ++ line (ascii "dropped") counts.dropped
    ++ line (ascii "crossed") counts.crossed
    ++ line (ascii "outmoved") counts.outmoved
    ++ line (ascii "sent") counts.sent
    ++ line (ascii "held") counts.held

-- the counts as at the trace's end, the loss, and the quiet slots of a drain
unfoldable pub totals : Counts → ℕ → List ℕ
totals counts quiet_slots =
    count_lines counts
    ++ line (ascii "per-thousand") (per_thousand counts.dropped counts.arrived)
    ++ line (ascii "quiet") quiet_slots

-- an accepted trace, or its refusal; the drain's limit is 4,096
unfoldable pub report_as : ℕ → List ℕ → List ℕ
report_as zero s = let w = (whole s).switch in totals (counts_of w) (quiet w 4096)
report_as (suc n) s = line (ascii "refused") (suc n)

unfoldable pub report_of : List ℕ → List ℕ
report_of s = ascii "name value\n" ++ report_as (reading s) s

-- the number in each answer of a drain
abbrev pub quiet_in : Drain → ℕ
quiet_in (Empty n) = n
quiet_in (NotEmpty n) = n

abbrev pub slots_in : Result Drained (Refused Switch) → ℕ
slots_in (Ok d) = quiet_in d.drain
slots_in (Err r) = number r.refusal
