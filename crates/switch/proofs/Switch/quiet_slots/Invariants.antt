-- `switch::Switch::quiet_slots` meets its contract. The invariant: the switch after n closings, and something was held after each number below n.
-- Assumes nothing.
use mathlib.Core.Path.{◌≡◌}
use Prim.Native.Nat.{ℕ, ◌<◌}
use Rattle.switch.specs.Switch.{held}
use Rattle.switch.specs.Draining.{closings}
use Rattle.switch.proofs.Switch.quiet_slots.Given as goal

abbrev pub invariant-loop-n : goal.invariant-loop-n
invariant-loop-n l = (l.now ≡ closings l.fn.self l.n) × ((m : ℕ) → m < l.n → held (closings l.fn.self m) ≡ 0 → ⊥)
