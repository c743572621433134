-- `trace_write::put::bytes` meets its contract.
-- Assumes nothing.
use Rattle.std.proofs.Common.{arith}
use lib.Seq.{ext_get_or}
use Rattle.trace_write.proofs.put.bytes.Goals as goal

pub returns : goal.returns
returns c = ext_get_or 0 _ _ (omega arith) (λ m h. c.loop-k.invariant m (omega arith))
