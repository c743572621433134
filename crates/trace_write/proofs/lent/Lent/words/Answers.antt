-- `trace_write::lent::Lent::words` meets its contract.
-- Assumes nothing.
use Rattle.std.proofs.Common.{arith}
use Rattle.trace_write.proofs.WritingLaws.{places_fit}
use Rattle.trace_write.proofs.lent.Lent.words.Goals as goal

pub overflow_cast-result : goal.overflow_cast-result
overflow_cast-result c = omega (arith, places_fit c.args.self.now.file)

pub overflow_cast-result-2 : goal.overflow_cast-result-2
overflow_cast-result-2 c = omega (arith, places_fit c.args.self.now.file)

pub overflow_cast-result-3 : goal.overflow_cast-result-3
overflow_cast-result-3 c = omega (arith, places_fit c.args.self.now.file)
