-- A sending at both. Greedy sends first, from each output that may and is not empty: each such packet pays 1 in advance for its output, and raises the limit by
-- 3 − 2 = 1. Then the rival sends from one output after another. Where greedy sent too, what it paid is spent. Where greedy did not, its queue was empty, so
-- the rival's was above it, and falls as what the rival has sent rises.
-- Assumes nothing.
use Prim.Native.Nat.{ℕ, zero, suc, ◌+◌, ◌-◌, ◌≤◌, ◌<◌}
use native.Mathlib.Omega.{arith}
use mathlib.Core.Bool.{true}
use mathlib.Core.Path.{◌≡◌, ap, sym}
use mathlib.Core.List.{List, [], ◌∷◌}
use Rattle.base.specs.Below.{sum_below}
use Rattle.base.proofs.Below.{sum_cong}
use Rattle.bound.specs.Switch.{Config, Slot, State, count}
use Rattle.bound.specs.Greedy.{ready, sends, Sent, limit}
use Rattle.bound.specs.Rival.{departs}
use Rattle.bound.proofs.Counts.{same_self, same_other}
use Rattle.bound.proofs.Potential.{over, in_over, in_over_le, out_over, potential, Bounded, Fewer, potential_fewer}
use Rattle.bound.proofs.Potential.{until, view, credit, credit_spent, out_over_turns}
use Rattle.bound.proofs.Sums.{sum_le, sum_add}

-- what holds while the rival answers the sending: the outputs outs have sent
unfoldable pub InSending : Config → Slot → State → State → List ℕ → State → Type 0
InSending c slot g e outs s = potential c s e.inq (view outs g.outq e.outq) + credit c outs (sends slot g) ≤ limit c e

-- the rival sends a packet from R, against greedy's queue Q before the sending and Q' after it, from which greedy sent t
send_paid : (R Q Q' t : ℕ) → t ≡ ready true Q → Q' + t ≡ Q → 1 ≤ R → over (R - 1) Q' + 1 ≤ over R Q + t
unfolding over ready
send_paid R zero Q' t ht hQ hR = omega arith
send_paid R (suc n) Q' t ht hQ hR = omega arith

-- where the rival holds back, what greedy paid covers that its queue has fallen from a to b
until_covered : (n r a b t : ℕ) → a ≡ b + t → over r b ≤ over r (until n a b) + until n t 0
unfolding until over
until_covered zero r a b t h = omega arith
until_covered (suc n) r a b t h = omega arith

module _ (c : Config) (slot : Slot) (g e : State) (z : Sent c slot g e) where
  -- greedy's output queues fall by what it sends
  pub outq_sent : sum_below e.outq c.ports + sum_below (sends slot g) c.ports ≡ sum_below g.outq c.ports
  outq_sent = omega (arith, sum_cong (λ j. e.outq j + sends slot g j) g.outq c.ports z.outq, sum_add e.outq (sends slot g) c.ports)

  limit_sent : limit c e ≡ limit c g + sum_below (sends slot g) c.ports
  unfolding limit
  limit_sent = omega (arith, outq_sent, z.sent)

  pub sending_opens : (s : State) → Bounded c s g → InSending c slot g e [] s
  unfolding Bounded InSending potential out_over credit view until count
  sending_opens s b = omega (arith, limit_sent, in_over_le c s s g.inq e.inq (λ i j l m. rw (z.inq i j l m) (omega arith)))

  out_over_ends : (s : State) (outs : List ℕ) → out_over c s e.outq ≤ out_over c s (view outs g.outq e.outq) + credit c outs (sends slot g)
  unfolding out_over credit view
  out_over_ends s outs = omega (
    arith,
    sum_le (λ j. over (s.outq j) (e.outq j)) (λ j. over (s.outq j) (view outs g.outq e.outq j) + view outs (sends slot g) (λ k. 0) j)
        c.ports
        (λ j l. until_covered (count outs j) (s.outq j) (g.outq j) (e.outq j) (sends slot g j) (omega (arith, z.outq j l))),
    sum_add (λ j. over (s.outq j) (view outs g.outq e.outq j)) (view outs (sends slot g) (λ k. 0)) c.ports,
  )

  pub sending_ends : (s : State) (outs : List ℕ) → InSending c slot g e outs s → Bounded c s e
  unfolding Bounded InSending potential
  sending_ends s outs b = omega (arith, out_over_ends s outs)

  pub sending_fewer : (s t : State) (outs : List ℕ) → Fewer s t → InSending c slot g e outs s → InSending c slot g e outs t
  unfolding InSending
  sending_fewer s t outs f b = omega (arith, potential_fewer c s t e.inq (view outs g.outq e.outq) f)

  -- the rival sends from output b
  out_over_sends : (s : State) (b : ℕ) → b < c.ports → (outs : List ℕ) → count outs b ≡ 0
      → out_over c (departs b s) (view (b ∷ outs) g.outq e.outq) + over (s.outq b) (g.outq b)
      ≤ out_over c s (view outs g.outq e.outq) + over (s.outq b - 1) (e.outq b)
  out_over_sends s b l outs fresh = omega (
    arith,
    out_over_turns c b outs l fresh s (departs b s) g.outq e.outq (λ k d. omega (arith, same_other b k (λ q. d (sym q)))),
    ap (λ x. over (s.outq b - x) (e.outq b)) (same_self b),
  )

  pub sending_sends : (s : State) (b : ℕ) → b < c.ports → slot.may_send b ≡ true → (outs : List ℕ) → count outs b ≡ 0 → 1 ≤ s.outq b
      → InSending c slot g e outs s → InSending c slot g e (b ∷ outs) (departs b s)
  unfolding InSending potential in_over
  sending_sends s b l may outs fresh some k = omega (
    arith,
    out_over_sends s b l outs fresh,
    credit_spent c b outs l fresh (sends slot g),
    send_paid (s.outq b) (g.outq b) (e.outq b) (sends slot g b) (ap (λ x. ready x (g.outq b)) may) (z.outq b l) some,
  )
