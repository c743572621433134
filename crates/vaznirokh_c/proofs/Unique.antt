-- Each export allows one answer and leaves each lent run that it may write one way, refusals too, as `Unique` of base says it.
-- Assumes nothing.
use mathlib.Core.List.{List}
use Prim.Native.Nat.{ℕ}
use Rattle.base.proofs.Unique.{determined, OneShown, OneAnswer}
use Rattle.vaznirokh_c.proofs.vaz_examine.Kinds as examine-kinds
use Rattle.vaznirokh_c.proofs.vaz_examine.Reads as examine
use Rattle.vaznirokh_c.proofs.vaz_run.Kinds as run-kinds
use Rattle.vaznirokh_c.proofs.vaz_run.Reads as run
use Rattle.vaznirokh_c.proofs.vaz_write.Kinds as write-kinds
use Rattle.vaznirokh_c.proofs.vaz_write.Reads as write
use Rattle.vaznirokh_c.proofs.vaz_new.Kinds as new-kinds
use Rattle.vaznirokh_c.proofs.vaz_new.Reads as new
use Rattle.vaznirokh_c.proofs.vaz_arrive.Kinds as arrive-kinds
use Rattle.vaznirokh_c.proofs.vaz_arrive.Reads as arrive
use Rattle.vaznirokh_c.proofs.vaz_close.Kinds as close-kinds
use Rattle.vaznirokh_c.proofs.vaz_close.Reads as close
use Rattle.vaznirokh_c.proofs.vaz_drain.Kinds as drain-kinds
use Rattle.vaznirokh_c.proofs.vaz_drain.Reads as drain

pub examine_one : OneAnswer 1 examine-kinds.ps examine-kinds.r examine.Post
examine_one κs a x y d e = determined

pub run_one : OneShown 3 run-kinds.ps run-kinds.r {A = λ κs. ℕ × List ℕ × List ℕ} (λ κs x d. (x, d.1.0.now, d.1.1.0.now)) run.Post
run_one κs a x y d e p q = λ i. (determined p.0 q.0 i, determined p.1.0 q.1.0 i, determined p.1.1 q.1.1 i)

pub write_one : OneShown 5 write-kinds.ps write-kinds.r {A = λ κs. ℕ × List ℕ} (λ κs x d. (x, d.1.1.1.1.0.now)) write.Post
write_one κs a x y d e p q = λ i. (determined p.0 q.0 i, determined p.1 q.1 i)

pub new_one : OneShown 2 new-kinds.ps new-kinds.r {A = λ κs. ℕ × List ℕ} (λ κs x d. (x, d.1.0.now)) new.Post
new_one κs a x y d e p q = λ i. (determined p.0 q.0 i, determined p.1 q.1 i)

pub arrive_one : OneShown 2 arrive-kinds.ps arrive-kinds.r {A = λ κs. ℕ × List ℕ × List ℕ} (λ κs x d. (x, d.0.now, d.1.1.1.0.now)) arrive.Post
arrive_one κs a x y d e p q = λ i. (determined p.0 q.0 i, determined p.1.0 q.1.0 i, determined p.1.1 q.1.1 i)

pub close_one : OneShown 1 close-kinds.ps close-kinds.r {A = λ κs. ℕ × List ℕ} (λ κs x d. (x, d.0.now)) close.Post
close_one κs a x y d e p q = λ i. (determined p.0 q.0 i, determined p.1 q.1 i)

pub drain_one : OneShown 2 drain-kinds.ps drain-kinds.r {A = λ κs. ℕ × List ℕ × List ℕ} (λ κs x d. (x, d.0.now, d.1.1.0.now)) drain.Post
drain_one κs a x y d e p q = λ i. (determined p.0 q.0 i, determined p.1.0 q.1.0 i, determined p.1.1 q.1.1 i)
