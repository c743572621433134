-- The contract of `close` allows one answer, and leaves the queues and the log one way, as `Unique` of base says it: the lent arrays hold some queues, and both
-- outcomes are what the closing of those leaves.
-- Assumes nothing.
use Prim.Native.Nat.{ℕ}
use mathlib.Core.List.{List}
use Rattle.base.proofs.Unique.{OneShown}
use Rattle.queues.proofs.LeftLaws.{left_all_one, held, is_held}
use Rattle.closing.proofs.close.Kinds as close-kinds
use Rattle.closing.proofs.close.Reads as close

-- beside the answer: the input queues, the output queues, the crosspoints and the log, which are the second to the fifth parameter
pub close_one : OneShown 5 close-kinds.ps close-kinds.r {A = λ κs. ℕ × List ℕ × List ℕ × List ℕ × List ℕ} (λ κs x d. (x, d.1.0.now, d.1.1.0.now, d.1.1.1.0.now, d.1.1.1.1.0.now)) close.Post
close_one κs a x y d e p q =
    let h = held _ _ _ _ _ in
    let is = is_held _ _ _ _ _ in
    left_all_one (p h is) (q h is)
