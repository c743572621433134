-- The number of a refused run is the first refusal's.
-- Assumes nothing.
use Prim.Native.Nat.{ℕ, ◌≤◌}
use native.Mathlib.Omega.{arith}
use mathlib.Core.Path.{◌≡◌}
use mathlib.Core.List.{List}
use lib.ListN.{length}
use Rattle.base.specs.Refusal.{refusal_with}
use Rattle.base.proofs.RefusalLaws.{unless_small, chain_small, number_with_judged}
use Rattle.trace.proofs.ReadingLaws.{reading_small}
use Rattle.run.specs.Run.{running, ran, finished}

running_small : (s : List ℕ) (room : ℕ) → running s room ≤ 18
unfolding running
running_small s room = chain_small _ _ 18 (omega (arith, reading_small s)) (unless_small _ 12 18 (omega arith))

module _ (s log : List ℕ) where
  pub refusal_of_ran : refusal_with (ran s log) ≡ running s (length log)
  unfolding ran
  refusal_of_ran = number_with_judged _ _ _ (running_small s (length log))

  pub refusal_of_finished : refusal_with (finished s log) ≡ running s (length log)
  unfolding finished
  refusal_of_finished = number_with_judged _ _ _ (running_small s (length log))
