-- The contracts of the two parts allow one answer, and leave the queues and the log one way, as `Unique` of base says it.
-- Assumes nothing.
use Prim.Native.Nat.{ℕ}
use mathlib.Core.List.{List}
use Rattle.base.proofs.Unique.{OneShown}
use Rattle.queues.specs.declared.Went.{Went}
use Rattle.queues.proofs.LeftLaws.{left_one}
use Rattle.crossbar.proofs.input_part.Kinds as input-part-kinds
use Rattle.crossbar.proofs.input_part.Reads as input_part_lem
use Rattle.crossbar.proofs.output_part.Kinds as output-part-kinds
use Rattle.crossbar.proofs.output_part.Reads as output_part_lem

-- beside the answer: the queues that packets leave, those that they join, and the log, which are the second to the fourth parameter
pub input_part_one : OneShown 4 input-part-kinds.ps input-part-kinds.r {A = λ κs. Went × List ℕ × List ℕ × List ℕ} (λ κs x d. (x, d.1.0.now, d.1.1.0.now, d.1.1.1.0.now)) input_part_lem.Post
input_part_one κs a x y d e = left_one

pub output_part_one : OneShown 4 output-part-kinds.ps output-part-kinds.r {A = λ κs. Went × List ℕ × List ℕ × List ℕ} (λ κs x d. (x, d.1.0.now, d.1.1.0.now, d.1.1.1.0.now)) output_part_lem.Post
output_part_one κs a x y d e = left_one
