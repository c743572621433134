-- A cycle at both. Greedy moves its whole matching m first: each move lowers an input queue of greedy's, which raises the potential by at most 1, and pays 1 in
-- advance for its input port; and it raises the limit by 2. Then the rival moves packets one by one. A move from i to j brings the rival's output queue j further
-- above greedy's only if greedy moved nothing into j and greedy's queue j is not full. If the rival's input queue (i, j) was above greedy's, that one falls
-- instead. If it was not, the pair was eligible for greedy; m is maximal, so greedy moved something out of i, and what it paid for i is spent.
-- Assumes nothing.
use Prim.Native.Nat.{ℕ, zero, suc, ◌+◌, ◌-◌, ◌*◌, ◌≤◌, ◌<◌}
use native.Mathlib.Decide.{dec_le, dec_lt}
use native.Mathlib.Omega.{arith}
use mathlib.Core.Path.{◌≡◌, ap, sym}
use mathlib.Core.Logic.{by_cases}
use mathlib.Core.List.{List, [], ◌∷◌}
use lib.ListN.{length}
use Rattle.base.specs.Below.{sum_below}
use Rattle.base.proofs.Below.{sum_cong}
use Rattle.bound.specs.Switch.{Config, Pair, ◌⇢◌, State, on, count}
use Rattle.bound.specs.Greedy.{inputs, outputs, along, Cycled, limit}
use Rattle.bound.specs.Rival.{crosses}
use Rattle.bound.proofs.Counts.{same_self, same_other, on_self, sum_ports, sum2_along}
use Rattle.bound.proofs.Potential.{over, in_over, out_over, out_over_le, potential, Bounded, Fewer, potential_fewer}
use Rattle.bound.proofs.Potential.{until, view, credit, credit_spent, out_over_turns}
use Rattle.bound.proofs.Sums.{sum_add, sum2_le, sum2_add, sum2_point}

-- what holds while the rival answers the cycle: it has used the inputs ins and the outputs outs
unfoldable pub InCycle : Config → List Pair → State → State → List ℕ → List ℕ → State → Type 0
InCycle c m g h ins outs s = potential c s h.inq (view outs g.outq h.outq) + credit c ins (count (inputs m)) ≤ limit c h

-- the rival moves a packet from r to R, against greedy's queues q and Q before the cycle and q' and Q' after it; greedy moved x packets into Q, and t out of
-- the input port
move_paid : (r q q' R Q Q' x t cap : ℕ) → 1 ≤ r → R < cap → q' ≤ q → Q' ≡ Q + x → (1 ≤ q → Q < cap → 1 ≤ t + x)
    → over (r - 1) q' + over (R + 1) Q' ≤ over r q' + over R Q + t
unfolding over
move_paid r q q' R Q Q' x t cap hr hR hq hQ maximal = by_cases (dec_lt Q cap)
    (λ room. by_cases (dec_le 1 q) (λ waits. omega (arith, maximal waits room)) (λ none. omega arith))
    (λ full. omega arith)

over_less : (a x b : ℕ) → over (a - x) b ≤ over a b
unfolding over
over_less a x b = omega arith

until_le : (n a b : ℕ) → a ≤ b → until n a b ≤ b
unfolding until
until_le zero a b h = h
until_le (suc n) a b h = omega arith

module _ (c : Config) (m : List Pair) (g h : State) (y : Cycled c m g h) where
  -- greedy's output queues grow by its moves
  pub outq_cycled : sum_below h.outq c.ports ≡ sum_below g.outq c.ports + length m
  outq_cycled = omega (
    arith,
    sum_cong h.outq (λ j. g.outq j + count (outputs m) j) c.ports y.outq,
    sum_add g.outq (count (outputs m)) c.ports,
    sum_ports c g (λ p. p.output) (λ p r. r.output) m y.legal,
  )

  limit_cycled : limit c h ≡ limit c g + 2 * length m
  unfolding limit
  limit_cycled = omega (arith, outq_cycled, y.sent)

  in_over_cycled : (s : State) → in_over c s h.inq ≤ in_over c s g.inq + length m
  unfolding in_over over
  in_over_cycled s = omega (
    arith,
    sum2_le (λ i j. over (s.inq i j) (h.inq i j)) (λ i j. over (s.inq i j) (g.inq i j) + along m i j) c.ports
        (λ i j l k. omega (arith, y.inq i j l k)),
    sum2_add (λ i j. over (s.inq i j) (g.inq i j)) (along m) c.ports,
    sum2_along c g m y.legal,
  )

  pub cycle_opens : (s : State) → Bounded c s g → InCycle c m g h [] [] s
  unfolding Bounded InCycle potential out_over credit view until count
  cycle_opens s b = omega (arith, in_over_cycled s, limit_cycled, sum_ports c g (λ p. p.input) (λ p r. r.input) m y.legal)

  outq_ends : (s : State) (outs : List ℕ) (j : ℕ) → j < c.ports → over (s.outq j) (h.outq j) ≤ over (s.outq j) (view outs g.outq h.outq j)
  unfolding over view
  outq_ends s outs j l = omega (arith, until_le (count outs j) (g.outq j) (h.outq j) (omega (arith, y.outq j l)))

  pub cycle_ends_lem : (s : State) (ins outs : List ℕ) → InCycle c m g h ins outs s → Bounded c s h
  unfolding Bounded InCycle potential
  cycle_ends_lem s ins outs b = omega (arith, out_over_le c s s (view outs g.outq h.outq) h.outq (outq_ends s outs))

  pub cycle_fewer : (s t : State) (ins outs : List ℕ) → Fewer s t → InCycle c m g h ins outs s → InCycle c m g h ins outs t
  unfolding InCycle
  cycle_fewer s t ins outs f b = omega (arith, potential_fewer c s t h.inq (view outs g.outq h.outq) f)

-- the rival moves a packet from input a to output b
module _ (c : Config) (s : State) (a b : ℕ) (la : a < c.ports) (lb : b < c.ports) where
  in_over_moves : (q : ℕ → ℕ → ℕ) → in_over c (crosses (a ⇢ b) s) q + over (s.inq a b) (q a b) ≤ in_over c s q + over (s.inq a b - 1) (q a b)
  unfolding in_over
  in_over_moves q = omega (
    arith,
    sum2_point (λ i j. over (s.inq i j - on (a ⇢ b) i j) (q i j)) (λ i j. over (s.inq i j) (q i j)) c.ports a b la lb
        (λ i j l k d. over_less (s.inq i j) (on (a ⇢ b) i j) (q i j)),
    ap (λ x. over (s.inq a b - x) (q a b)) (on_self (a ⇢ b)),
  )

  out_over_moves : (outs : List ℕ) (f g : ℕ → ℕ) → count outs b ≡ 0
      → out_over c (crosses (a ⇢ b) s) (view (b ∷ outs) f g) + over (s.outq b) (f b) ≤ out_over c s (view outs f g) + over (s.outq b + 1) (g b)
  out_over_moves outs f g fresh = omega (
    arith,
    out_over_turns c b outs lb fresh s (crosses (a ⇢ b) s) f g (λ k d. omega (arith, same_other b k (λ e. d (sym e)))),
    ap (λ x. over (s.outq b + x) (g b)) (same_self b),
  )

  pub cycle_moves : (m : List Pair) (g h : State) → Cycled c m g h → (ins outs : List ℕ) → count ins a ≡ 0 → count outs b ≡ 0
      → 1 ≤ s.inq a b → s.outq b < c.cap_out b → InCycle c m g h ins outs s → InCycle c m g h (a ∷ ins) (b ∷ outs) (crosses (a ⇢ b) s)
  unfolding InCycle potential
  cycle_moves m g h y ins outs fa fb waits room k = omega (
    arith,
    in_over_moves h.inq,
    out_over_moves outs g.outq h.outq fb,
    credit_spent c a ins la fa (count (inputs m)),
    move_paid (s.inq a b) (g.inq a b) (h.inq a b) (s.outq b) (g.outq b) (h.outq b) (count (outputs m) b) (count (inputs m) a) (c.cap_out b) waits room
        (omega (arith, y.inq a b la lb)) (y.outq b lb) (λ w r. omega (arith, y.maximal a b la lb (record { waits = w; room = r }))),
  )
