-- `trace_write::lent::Lent::fill` meets its contract: the four parts stand one after the other.
-- Assumes nothing.
use Rattle.std.proofs.Common.{arith, ap, sym, length, length-take-le}
use Rattle.trace_write.specs.Writing.{header_words}
use Rattle.trace_write.proofs.WritingLaws.{parts_put}
use Rattle.trace_write.proofs.lent.Lent.fill.Goals as goal

pub slice_bounds-table-end-2 : goal.slice_bounds-table-end-2
slice_bounds-table-end-2 c = sym (length-take-le 40 c.args.out.now (omega arith))

pub table-requires : goal.table-requires
unfolding header_words
table-requires c = omega (arith, length-take-le 40 c.args.out.now (omega arith), ap length c.words.ensures)

pub returns : goal.returns
returns c =
    parts_put _ c.args.self.now.file.places _ _ _ c.args.out.now c.words.result _ _ _ _ c.requires.capacities c.requires.counts c.requires.ports
    c.words.ensures
    c.table.ensures
    c.table-2.ensures
    c.table-3.ensures
    c.bytes.ensures
