-- Each contract of this crate allows one answer, as `Unique` of base says it.
-- Assumes nothing.
use Rattle.base.proofs.Unique.{determined, OneAnswer}
use Rattle.loss.proofs.per_thousand.Kinds as per-thousand-kinds
use Rattle.loss.proofs.per_thousand.Reads as per-thousand

pub per_thousand_one : OneAnswer 0 per-thousand-kinds.ps per-thousand-kinds.r per-thousand.Post
per_thousand_one κs a x y d e = determined
