-- The contract of the function that makes the text allows one answer and leaves the page one way, as `Unique` of base says it.
-- Assumes nothing.
use Prim.Native.Nat.{ℕ}
use mathlib.Core.List.{List}
use Rattle.base.proofs.Unique.{OneShown}
use Rattle.text.proofs.Unique.{written_one}
use Rattle.report.proofs.report.report.Kinds as report-kinds
use Rattle.report.proofs.report.report.Reads as report

pub report_one : OneShown 2 report-kinds.ps report-kinds.r {A = λ κs. ℕ × List ℕ} (λ κs x d. (x, d.1.0.now)) report.Post
report_one κs a x y d e = written_one
