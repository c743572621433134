-- The contract of `write` allows one answer and leaves the output one way, refusals too, as `Unique` of base says it. The output is the
-- last of the five parameters.
-- Assumes nothing.
use mathlib.Core.List.{List}
use Prim.Native.Nat.{ℕ}
use Rattle.base.proofs.Unique.{determined, OneShown}
use Rattle.std.specs.Prelude.{Result}
use Rattle.base.specs.declared.Refusal.{Refusal}
use Rattle.trace_write.proofs.write.Kinds as write-kinds
use Rattle.trace_write.proofs.write.Reads as write

pub write_one : OneShown 4 write-kinds.ps write-kinds.r {A = λ κs. Result ℕ Refusal × List ℕ} (λ κs x d. (x, d.1.1.1.1.0.now)) write.Post
write_one κs a x y d e p q = λ i. (determined p.0 q.0 i, determined p.1 q.1 i)
