-- Each contract of this crate allows one answer: two that meet it are equal.
-- Assumes nothing.
use mathlib.Core.Path.{◌≡◌, sym, ◌∙◌}
use Prim.Native.Nat.{ℕ}
use Rattle.std.specs.Prelude.{Result}
use Rattle.base.specs.declared.Refusal.{Refusal}
use Rattle.switch.specs.declared.Switch.{Switch}
use Rattle.run.specs.declared.Counts.{Counts}
use Rattle.greedy_bound.specs.declared.Limits.{Limits}
use Rattle.greedy_bound.specs.Answer.{limit_answer, limits_of}

pub limit_unique : (s : Switch) (a b : Result ℕ Refusal) → a ≡ limit_answer s → b ≡ limit_answer s → a ≡ b
limit_unique s a b x y = x ∙ sym y

pub of_run_unique : (c : Counts) (a b : Limits) → a ≡ limits_of c → b ≡ limits_of c → a ≡ b
of_run_unique c a b x y = x ∙ sym y
