-- What greedy has moved out of input queues it has sent, or it stands in output queues: a cycle adds its moves to both sides, and a sending moves packets from
-- one part of the right side to the other.
-- Assumes nothing.
use Prim.Native.Nat.{ℕ, ◌+◌}
use native.Mathlib.Omega.{arith}
use mathlib.Core.Path.{◌≡◌}
use Rattle.base.specs.Below.{sum_below}
use Rattle.base.proofs.Below.{sum_cong}
use Rattle.base.proofs.Sums.{sum_zero}
use Rattle.bound.specs.Switch.{Config, Trace, State}
use Rattle.bound.specs.Greedy.{Greedy}
use Rattle.bound.proofs.Cycle.{outq_cycled}
use Rattle.bound.proofs.History.{Kept, kept}
use Rattle.bound.proofs.Sending.{outq_sent}

abbrev Accounted : Config → State → Type 0
Accounted c g = g.crossed ≡ g.sent + sum_below g.outq c.ports

accounted : (c : Config) → Kept c (Accounted c)
accounted c = record {
  empty = λ g x. omega (arith, sum_zero g.outq c.ports x.outq);
  arrived = λ p g h x b. omega (arith, sum_cong h.outq g.outq c.ports x.outq);
  cycled = λ m g h y b. omega (arith, outq_cycled c m g h y);
  sent = λ s g h z b. omega (arith, outq_sent c s g h z);
}

pub crossed_accounted : (c : Config) (trace : Trace) (n : ℕ) (g : State) → Greedy c trace n g → g.crossed ≡ g.sent + sum_below g.outq c.ports
crossed_accounted c trace n g x = kept c (Accounted c) (accounted c) x
