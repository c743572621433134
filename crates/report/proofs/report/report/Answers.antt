-- `report::report::report` meets its contract.
-- Assumes nothing.
use Rattle.std.proofs.Common.{rules}
use Rattle.text.specs.Text.{ascii}
use Rattle.text.proofs.WrittenLaws.{same}
use Rattle.text.proofs.PageLaws.{puts_then}
use Rattle.run.proofs.EnoughLaws.{log_length}
use Rattle.report.proofs.ReportLaws.{refused_report, accepted_report, accepted_dropped}
use Rattle.report.proofs.report.report.Goals as goal
use Rattle.report.proofs.report.report.Goals.{in-Ok, in-Err}

pub totals-requires : goal.totals-requires
totals-requires c = accepted_dropped _ _ log_length c.in-Ok.end c.in-Ok.ensures.value _ c.counts.ensures

pub returns : goal.returns
unfolding ascii
returns c =
    elim c.match-finish.branch [
      | in-Ok w ↦
          let all = same (accepted_report _ _ log_length w.in-Ok.end w.in-Ok.ensures.value _ w.counts.ensures _ w.quiet_slots.ensures) (puts_then c.put.ensures w.totals.ensures).written in
          let is = w.page-is in
          search (rules, all, is)
      | in-Err w ↦
          let all = same (refused_report _ _ log_length w.in-Err.refused w.in-Err.ensures.value _ w.number.ensures) (puts_then c.put.ensures w.line.ensures).written in
          let is = w.page-is in
          search (rules, all, is)
    ]
