-- `trace_write::put::table` meets its contract.
-- Assumes nothing.
use Rattle.std.proofs.Common.{arith, ◌∙◌}
use Rattle.trace_write.proofs.WritingLaws.{table_step}
use Rattle.trace_write.proofs.put.table.Goals as goal

pub loop-k-preserved : goal.loop-k-preserved
loop-k-preserved g c =
    let a = c.args in
    table_step g.T.Number.value g.row.K a.out.now c.loop-k.out _ a.numbers.now c.loop-k.k _ _ (omega arith) (omega arith) c.index-numbers-k.is (c.copy_from_slice.ensures.after ∙ c.digits.ensures) c.loop-k.invariant
