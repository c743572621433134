-- `report::report::totals` meets its contract.
-- Assumes nothing.
use native.Mathlib.Omega.{arith}
use mathlib.Core.Path.{ap}
use Rattle.text.specs.Text.{ascii, line}
use Rattle.text.proofs.PageLaws.{puts_then, puts_same}
use Rattle.report.specs.Report.{totals}
use Rattle.report.proofs.ReportLaws.{loss_small}
use Rattle.report.proofs.report.totals.Goals as goal

pub overflow_cast-lost : goal.overflow_cast-lost
overflow_cast-lost c =
    let few = loss_small c.args.counts.dropped c.args.counts.arrived c.requires in
    omega (arith, c.per_thousand-lost.ensures)

pub returns : goal.returns
unfolding totals ascii
returns c =
    puts_then (puts_then c.count_lines.ensures (puts_same (ap (line (ascii "per-thousand")) c.per_thousand-lost.ensures) c.line.ensures)) c.line-2.ensures
