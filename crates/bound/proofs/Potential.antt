-- The potential: what the rival has sent, and what each of its queues holds above greedy's same queue. The proof keeps it at or below greedy's limit, which
-- greedy's cycles and sendings raise. Greedy does a whole cycle, or a whole sending, at once, and the rival answers it by many events. So until the rival has
-- used output j, greedy's output queue j counts as it stood before; and what greedy has paid for in advance is added to the potential until the rival
-- has spent it.
-- Assumes nothing.
use Prim.Native.Nat.{ℕ, zero, suc, ◌+◌, ◌-◌, ◌≤◌, ◌<◌}
use native.Mathlib.Omega.{arith}
use mathlib.Core.Path.{◌≡◌, ap}
use mathlib.Core.Logic.{◌≢◌}
use mathlib.Core.List.{List, ◌∷◌}
use Rattle.base.specs.Below.{sum_below}
use Rattle.bound.specs.Switch.{Config, State, count}
use Rattle.bound.specs.Greedy.{limit}
use Rattle.bound.proofs.Counts.{count_self, count_other}
use Rattle.bound.proofs.Sums.{sum_le, sum_point, sum2, sum2_le}

-- how far a is above b
unfoldable pub over : ℕ → ℕ → ℕ
over a b = a - b

-- what the rival's input queues hold above q
unfoldable pub in_over : Config → State → (ℕ → ℕ → ℕ) → ℕ
in_over c s q = sum2 (λ i j. over (s.inq i j) (q i j)) c.ports

-- what the rival's output queues hold above o
unfoldable pub out_over : Config → State → (ℕ → ℕ) → ℕ
out_over c s o = sum_below (λ j. over (s.outq j) (o j)) c.ports

-- the rival's potential against input queues q and output queues o
unfoldable pub potential : Config → State → (ℕ → ℕ → ℕ) → (ℕ → ℕ) → ℕ
potential c s q o = s.sent + in_over c s q + out_over c s o

-- what holds between two steps of greedy's: the potential is at most the limit
unfoldable pub Bounded : Config → State → State → Type 0
Bounded c s g = potential c s g.inq g.outq ≤ limit c g

module _ (c : Config) (s t : State) where
  pub in_over_le : (q r : ℕ → ℕ → ℕ) → ((i j : ℕ) → i < c.ports → j < c.ports → over (t.inq i j) (r i j) ≤ over (s.inq i j) (q i j))
      → in_over c t r ≤ in_over c s q
  unfolding in_over
  in_over_le q r h = sum2_le (λ i j. over (t.inq i j) (r i j)) (λ i j. over (s.inq i j) (q i j)) c.ports h

  pub out_over_le : (o u : ℕ → ℕ) → ((j : ℕ) → j < c.ports → over (t.outq j) (u j) ≤ over (s.outq j) (o j)) → out_over c t u ≤ out_over c s o
  unfolding out_over
  out_over_le o u h = sum_le (λ j. over (t.outq j) (u j)) (λ j. over (s.outq j) (o j)) c.ports h

-- t has sent what s has, and holds no more in any queue
pub record Fewer (s t : State) : Type 0 where
  pub inq : (i j : ℕ) → t.inq i j ≤ s.inq i j
  pub outq : (j : ℕ) → t.outq j ≤ s.outq j
  pub sent : t.sent ≡ s.sent

-- whatever the rival discards, its potential does not grow
pub potential_fewer : (c : Config) (s t : State) (q : ℕ → ℕ → ℕ) (o : ℕ → ℕ) → Fewer s t → potential c t q o ≤ potential c s q o
unfolding potential over
potential_fewer c s t q o f = omega (
  arith,
  in_over_le c s t q q (λ i j l m. omega (arith, f.inq i j)),
  out_over_le c s t o o (λ j l. omega (arith, f.outq j)),
)

pub bounded_fewer : (c : Config) (s t g : State) → Fewer s t → Bounded c s g → Bounded c t g
unfolding Bounded
bounded_fewer c s t g f b = omega (arith, potential_fewer c s t g.inq g.outq f)

-- a before something has happened, and b from then on
unfoldable pub until : ℕ → ℕ → ℕ → ℕ
until zero a b = a
until (suc n) a b = b

-- f at the ports that are not used, and g at those that are
unfoldable pub view : List ℕ → (ℕ → ℕ) → (ℕ → ℕ) → ℕ → ℕ
view used f g k = until (count used k) (f k) (g k)

-- what f pays for in advance, at the ports that are not used
unfoldable pub credit : Config → List ℕ → (ℕ → ℕ) → ℕ
credit c used f = sum_below (view used f (λ k. 0)) c.ports

-- an event of the rival's at port b, which was not used before
module _ (c : Config) (b : ℕ) (used : List ℕ) (l : b < c.ports) (fresh : count used b ≡ 0) where
  view_before : (f g : ℕ → ℕ) → view used f g b ≡ f b
  unfolding view until
  view_before f g = rw fresh

  view_after : (f g : ℕ → ℕ) → view (b ∷ used) f g b ≡ g b
  unfolding view until
  view_after f g = rw (count_self b used fresh)

  view_other : (f g : ℕ → ℕ) (k : ℕ) → k ≢ b → view (b ∷ used) f g k ≡ view used f g k
  unfolding view until
  view_other f g k d = rw (count_other b k used d)

  -- it spends what was paid for b
  pub credit_spent : (f : ℕ → ℕ) → credit c (b ∷ used) f + f b ≤ credit c used f
  unfolding credit
  credit_spent f = omega (
    arith,
    sum_point (view (b ∷ used) f (λ k. 0)) (view used f (λ k. 0)) c.ports b l (λ k m d. omega (arith, view_other f (λ k. 0) k d)),
    view_before f (λ k. 0),
    view_after f (λ k. 0),
  )

  -- it turns queue b, and no other, from f b to g b
  pub out_over_turns : (s t : State) (f g : ℕ → ℕ) → ((k : ℕ) → k ≢ b → t.outq k ≡ s.outq k)
      → out_over c t (view (b ∷ used) f g) + over (s.outq b) (f b) ≤ out_over c s (view used f g) + over (t.outq b) (g b)
  unfolding out_over
  out_over_turns s t f g h = omega (
    arith,
    sum_point (λ j. over (t.outq j) (view (b ∷ used) f g j)) (λ j. over (s.outq j) (view used f g j)) c.ports b l
        (λ k m d. rw (h k d, view_other f g k d) (omega arith)),
    ap (over (s.outq b)) (view_before f g),
    ap (over (t.outq b)) (view_after f g),
  )
