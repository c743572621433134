-- The contract of `cycle` allows one answer, and leaves the queues and the log one way, as `Unique` of base says it.
-- Assumes nothing.
use Prim.Native.Nat.{ℕ}
use mathlib.Core.List.{List}
use Rattle.base.proofs.Unique.{OneShown}
use Rattle.queues.specs.declared.Went.{Went}
use Rattle.queues.proofs.LeftLaws.{left_one}
use Rattle.cioq.proofs.cycle.Kinds as cycle-kinds
use Rattle.cioq.proofs.cycle.Reads as cycle

-- beside the answer: the input queues, the output queues and the log, which are the second to the fourth parameter
pub cycle_one : OneShown 4 cycle-kinds.ps cycle-kinds.r {A = λ κs. Went × List ℕ × List ℕ × List ℕ} (λ κs x d. (x, d.1.0.now, d.1.1.0.now, d.1.1.1.0.now)) cycle.Post
cycle_one κs a x y d e = left_one
