-- Each contract of this crate allows one answer and leaves the page one way, as `Unique` of base says it.
-- Assumes nothing.
use Prim.Native.Nat.{ℕ}
use mathlib.Core.List.{List}
use mir.Syntax.{Dict}
use denote.RattleType.{RattleType}
use denote.Param.Laws.{Laws}
use Rattle.std.specs.declared.io.traits.Write.{Ghosts}
use Rattle.base.proofs.Unique.{determined, OneShown, OneAnswer}
use Rattle.text.proofs.Unique.{written_one}
use Rattle.refusal_text.proofs.refusal_line.Kinds as refusal-line-kinds
use Rattle.refusal_text.proofs.refusal_line.Reads as refusal-line
use Rattle.refusal_text.proofs.told.Kinds as told-kinds
use Rattle.refusal_text.proofs.told.Reads as told

pub refusal_line_one : OneShown 1 refusal-line-kinds.ps refusal-line-kinds.r {A = λ κs. ℕ × List ℕ} (λ κs x d. (x, d.0.now)) refusal-line.Post
refusal_line_one κs a x y d e = written_one

-- whatever it is that the line is written to
pub told_one : (T : RattleType) (L : Laws T) (W : Ghosts T.Denot) (D : Dict) → OneAnswer 2 (told-kinds.ps T L) (told-kinds.r T L) (told.Post T L W D)
told_one T L W D κs a x y d e = determined
