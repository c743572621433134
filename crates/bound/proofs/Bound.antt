-- The bound: at the end of every slot the rival has sent at most the limit, which is three times what greedy has sent and twice what stands in greedy's output
-- queues. Greedy and the rival run side by side through each slot, and each event of the rival's keeps the potential at or below the limit (`Potential`,
-- `Arrival`, `Cycle`, `Sending`). What the rival has sent is part of its potential.
-- Assumes nothing.
use Prim.Native.Nat.{ℕ, zero, suc, ◌*◌, ◌≤◌, ◌<◌}
use native.Mathlib.Omega.{arith}
use mathlib.Core.Path.{◌≡◌, refl}
use mathlib.Core.List.{List, []}
use Rattle.base.proofs.Sums.{sum_zero}
use Rattle.bound.specs.Switch.{Config, Pair, Slot, Trace, State, empty}
use Rattle.bound.specs.Greedy as G
use Rattle.bound.specs.Greedy.{Arrivals, Cycled, Cycles, Sent, Greedy, none, more, limit}
use Rattle.bound.specs.Rival as R
use Rattle.bound.specs.Rival.{Stage, arriving, crossing, sending, Step, accepted, refused, arrivals_end, moved, cycle_ends, cycles_end, sent}
use Rattle.bound.specs.Rival.{discarded_in, discarded_out, Steps, done, ◌then◌, Rival}
use Rattle.bound.proofs.Arrival.{arrival_refused, arrival_accepted}
use Rattle.bound.proofs.Cycle.{InCycle, cycle_opens, cycle_fewer, cycle_moves, cycle_ends_lem}
use Rattle.bound.proofs.Potential.{over, in_over, out_over, potential, Bounded, Fewer, bounded_fewer}
use Rattle.bound.proofs.Sending.{InSending, sending_opens, sending_fewer, sending_sends, sending_ends}
use Rattle.bound.proofs.Sums.{sum2_zero}

-- what holds where the rival stands in s at a stage of the slot, and greedy is to end the slot in e
data Follows (c : Config) (slot : Slot) (e : State) : Stage → State → Type 0 where
  at_arrivals : {l : List Pair} {s g h i : State} → Bounded c s g → Arrivals c l g h → Cycles c c.speedup h i → Sent c slot i e
      → Follows c slot e (arriving l) s
  in_cycle : {k : ℕ} {ins outs : List ℕ} {m : List Pair} {s g h i : State} → InCycle c m g h ins outs s → Cycled c m g h → Cycles c k h i → Sent c slot i e
      → Follows c slot e (crossing (suc k) ins outs) s
  after_cycles : {ins outs : List ℕ} {s g : State} → Bounded c s g → Sent c slot g e → Follows c slot e (crossing zero ins outs) s
  in_sending : {outs : List ℕ} {s g : State} → InSending c slot g e outs s → Sent c slot g e → Follows c slot e (sending outs) s

module _ (c : Config) (slot : Slot) (e : State) where
  -- greedy's next cycle, if there is one
  opens : {k : ℕ} {s g h : State} → Bounded c s g → Cycles c k g h → Sent c slot h e → Follows c slot e (crossing k [] []) s
  opens b none z = after_cycles b z
  opens {s} {g} b (more {m = m} {h = h} y ys) z = in_cycle (cycle_opens c m g h y s b) y ys z

  -- the rival discards
  fewer : {at : Stage} {s t : State} → Fewer s t → Follows c slot e at s → Follows c slot e at t
  fewer {s} {t} f (at_arrivals {g = g} b xs ys z) = at_arrivals (bounded_fewer c s t g f b) xs ys z
  fewer {s} {t} f (in_cycle {ins = ins} {outs = outs} {m = m} {g = g} {h = h} b y ys z) = in_cycle (cycle_fewer c m g h y s t ins outs f b) y ys z
  fewer {s} {t} f (after_cycles {g = g} b z) = after_cycles (bounded_fewer c s t g f b) z
  fewer {s} {t} f (in_sending {outs = outs} {g = g} b z) = in_sending (sending_fewer c slot g e z s t outs f b) z

  -- each event of the rival's
  step : {at to : Stage} {s t : State} → Step c slot at s to t → Follows c slot e at s → Follows c slot e to t
  step {s} (accepted {p = p} room) (at_arrivals {g = g} b (more {h = h} x xs) ys z) = at_arrivals (arrival_accepted c p s g h x (omega arith) b) xs ys z
  step {s} (refused {p = p}) (at_arrivals {g = g} b (more {h = h} x xs) ys z) = at_arrivals (arrival_refused c p s g h x b) xs ys z
  step arrivals_end (at_arrivals b none ys z) = opens b ys z
  step {s} (moved p {ins = ins} {outs = outs} la lb fa fb waits room) (in_cycle {m = m} {g = g} {h = h} b y ys z) =
      in_cycle (cycle_moves c s p.input p.output la lb m g h y ins outs (omega arith) (omega arith) (omega arith) (omega arith) b) y ys z
  step {s} (cycle_ends {ins = ins} {outs = outs}) (in_cycle {m = m} {g = g} {h = h} b y ys z) = opens (cycle_ends_lem c m g h y s ins outs b) ys z
  step {s} cycles_end (after_cycles {g = g} b z) = in_sending (sending_opens c slot g e z s b) z
  step {s} (sent j {outs = outs} l may fresh some) (in_sending {g = g} b z) = in_sending (sending_sends c slot g e z s j l may outs (omega arith) (omega arith) b) z
  step (discarded_in p) f = fewer (record { inq = λ i j. omega arith; outq = λ j. omega arith; sent = refl }) f
  step (discarded_out b) f = fewer (record { inq = λ i j. omega arith; outq = λ j. omega arith; sent = refl }) f

  steps : {at to : Stage} {s t : State} → Steps c slot at s to t → Follows c slot e at s → Follows c slot e to t
  steps done f = f
  steps (x then xs) f = steps xs (step x f)

  ends : {s : State} {outs : List ℕ} → Follows c slot e (sending outs) s → Bounded c s e
  ends {s} {outs} (in_sending {g = g} b z) = sending_ends c slot g e z s outs b

start_bounded : (c : Config) (g : State) → Bounded c empty g
unfolding Bounded potential in_over out_over over
start_bounded c g = omega (
  arith,
  sum2_zero (λ i j. over 0 (g.inq i j)) c.ports (λ i j l m. omega arith),
  sum_zero (λ j. over 0 (g.outq j)) c.ports (λ j l. omega arith),
)

slots_bounded : (c : Config) (trace : Trace) {n : ℕ} {g s : State} → Greedy c trace n g → Rival c trace n s → Bounded c s g
slots_bounded c trace (G.start {g = g} x) R.start = start_bounded c g
slots_bounded c trace (G.slot {n = n} {e = e} x a) (R.slot y z) =
    ends c (trace n) e (steps c (trace n) e z (at_arrivals (slots_bounded c trace x y) a.arrivals a.cycles a.sending))

-- At the end of every slot, whatever the switch, the trace and the number n of slots so far, of every state g that greedy matching can stand in and every state
-- s that any rival can stand in: what the rival has sent is at most the limit.
pub bound : (c : Config) (trace : Trace) (n : ℕ) (g s : State) → Greedy c trace n g → Rival c trace n s → s.sent ≤ limit c g
unfolding Bounded potential
bound c trace n g s x y = omega (arith, slots_bounded c trace x y)

-- Where greedy's output queues are empty, that is three times what greedy has sent.
pub bound_empty : (c : Config) (trace : Trace) (n : ℕ) (g s : State) → Greedy c trace n g → Rival c trace n s
    → ((j : ℕ) → j < c.ports → g.outq j ≡ 0) → s.sent ≤ 3 * g.sent
unfolding limit
bound_empty c trace n g s x y rest = omega (arith, bound c trace n g s x y, sum_zero g.outq c.ports rest)
