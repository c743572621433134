-- An arrival at both. Where greedy accepts, its queue grows, so the rival's is above it by no more than before, whether or not the rival accepts. Where
-- greedy drops, its queue is full, so the rival's, which had room under the same capacity, is not above it.
-- Assumes nothing.
use Prim.Native.Nat.{ℕ, ◌+◌, ◌≤◌, ◌<◌}
use native.Mathlib.Omega.{arith}
use mathlib.Core.Path.{◌≡◌, ap₂}
use mathlib.Core.Logic.{◌⊎◌, inl, inr}
use Rattle.base.proofs.Below.{sum_cong}
use Rattle.bound.specs.Switch.{Config, Pair, State, on}
use Rattle.bound.specs.Greedy.{Arrived, Answer, accepted, dropped, limit}
use Rattle.bound.specs.Rival.{joins}
use Rattle.bound.proofs.Counts.{on_cases, on_self}
use Rattle.bound.proofs.Potential.{over, potential, in_over_le, out_over_le, Bounded}

module _ (c : Config) (p : Pair) (s g h : State) (a : Arrived c p g h) where
  limit_arrived : limit c h ≡ limit c g
  unfolding limit
  limit_arrived = omega (arith, sum_cong h.outq g.outq c.ports a.outq, a.sent)

  outq_arrived : (j : ℕ) → j < c.ports → over (s.outq j) (h.outq j) ≤ over (s.outq j) (g.outq j)
  unfolding over
  outq_arrived j l = omega (arith, a.outq j l)

  inq_refused : Answer c p g h → (i j : ℕ) → i < c.ports → j < c.ports → over (s.inq i j) (h.inq i j) ≤ over (s.inq i j) (g.inq i j)
  unfolding over
  inq_refused (accepted room grows) i j l m = omega (arith, grows i j l m)
  inq_refused (dropped full stays) i j l m = omega (arith, stays i j l m)

  inq_accepted : Answer c p g h → s.inq p.input p.output < c.cap_in p.input p.output → (i j : ℕ) → i < c.ports → j < c.ports
      → over (s.inq i j + on p i j) (h.inq i j) ≤ over (s.inq i j) (g.inq i j)
  unfolding over
  inq_accepted (accepted room grows) r i j l m = omega (arith, grows i j l m)
  inq_accepted (dropped full stays) r i j l m = go (on_cases p i j)
    where
      go : (on p i j ≡ 0) ⊎ ((i ≡ p.input) × (j ≡ p.output)) → over (s.inq i j + on p i j) (h.inq i j) ≤ over (s.inq i j) (g.inq i j)
      go (inl e) = omega (arith, stays i j l m)
      go (inr e) = omega (arith, stays i j l m, on_self p, ap₂ (on p) e.0 e.1, ap₂ s.inq e.0 e.1, ap₂ g.inq e.0 e.1)

  -- the rival refuses
  pub arrival_refused : Bounded c s g → Bounded c s h
  unfolding Bounded potential
  arrival_refused b = omega (
    arith,
    limit_arrived,
    in_over_le c s s g.inq h.inq (inq_refused a.inq),
    out_over_le c s s g.outq h.outq outq_arrived,
  )

  -- the rival accepts
  pub arrival_accepted : s.inq p.input p.output < c.cap_in p.input p.output → Bounded c s g → Bounded c (joins p s) h
  unfolding Bounded potential
  arrival_accepted room b = omega (
    arith,
    limit_arrived,
    in_over_le c s (joins p s) g.inq h.inq (inq_accepted a.inq room),
    out_over_le c s (joins p s) g.outq h.outq outq_arrived,
  )
