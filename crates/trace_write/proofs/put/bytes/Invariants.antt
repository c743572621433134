-- `trace_write::put::bytes` meets its contract. The invariant: the bytes so far are the table's.
-- Assumes nothing.
use Rattle.std.proofs.Common.{◌≡◌, ℕ, ◌<◌, get_or}
use Rattle.trace_write.proofs.put.bytes.Given as goal

abbrev pub invariant-loop-k : goal.invariant-loop-k
invariant-loop-k l = (m : ℕ) → m < l.k → get_or l.out m 0 ≡ get_or l.table m 0
