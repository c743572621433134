-- `report::print_report` meets its contract.
-- Assumes nothing.
use Rattle.std.proofs.Common.{ℕ, arith}
use lib.ListN.{length-replicate}
use Rattle.text.proofs.WrittenLaws.{counted}
use Rattle.text.proofs.OutLaws.{appends_same}
use Rattle.report.proofs.RoomLaws.{whole_report}
use Rattle.report.proofs.print_report.Goals as goal

pub slice_bounds-page-end : goal.slice_bounds-page-end
slice_bounds-page-end g c = (counted c.report-length.ensures).0

pub slice_bounds-write_all-end : goal.slice_bounds-write_all-end
slice_bounds-write_all-end g c = (counted c.report-length.ensures).1

pub returns : goal.returns
returns g c =
    appends_same _ _ _
    (whole_report c.args.trace.now (omega (arith, length-replicate {A = ℕ} 512 0)) c.report-length.ensures)
    c.write_all.ensures.bytes
