-- `trace_write::put::table` meets its contract. The invariant: the numbers so far stand in front of what was there.
-- Assumes nothing.
use Rattle.std.proofs.Common.{◌≡◌, ◌*◌, ◌++◌, take, drop, map}
use Rattle.base.specs.Digits.{spell}
use Rattle.trace_write.proofs.put.table.Given as goal

abbrev pub invariant-loop-k : goal.invariant-loop-k
invariant-loop-k g l = l.out ≡ spell g.row.K (take l.k (map g.T.Number.value l.numbers)) ++ drop (g.row.K * l.k) l.initial.out
