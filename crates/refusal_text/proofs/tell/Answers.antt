-- `refusal_text::tell` meets its contract.
-- Assumes nothing.
use Rattle.std.proofs.Common.{ℕ, arith}
use lib.ListN.{length-replicate}
use Rattle.text.proofs.WrittenLaws.{counted}
use Rattle.text.proofs.OutLaws.{appends_same}
use Rattle.refusal_text.proofs.RoomLaws.{whole_line}
use Rattle.refusal_text.proofs.tell.Goals as goal

pub slice_bounds-page-end : goal.slice_bounds-page-end
slice_bounds-page-end g c = (counted c.refusal_line-k.ensures).0

pub slice_bounds-write_all-end : goal.slice_bounds-write_all-end
slice_bounds-write_all-end g c = (counted c.refusal_line-k.ensures).1

pub returns : goal.returns
returns g c =
    appends_same _ _ _
    (whole_line c.args.n (omega (arith, length-replicate {A = ℕ} 256 0)) c.refusal_line-k.ensures)
    c.write_all.ensures.bytes
