-- `report::report::count_lines` meets its contract.
-- Assumes nothing.
use Rattle.text.specs.Text.{ascii}
use Rattle.text.proofs.PageLaws.{puts_then}
use Rattle.report.specs.Report.{count_lines}
use Rattle.report.proofs.report.count_lines.Goals as goal

pub returns : goal.returns
unfolding count_lines ascii
returns c =
    puts_then (puts_then (puts_then (puts_then (puts_then c.line.ensures c.line-2.ensures) c.line-3.ensures) c.line-4.ensures) c.line-5.ensures) c.line-6.ensures
