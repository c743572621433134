-- Every queue of both schedulers is within its capacity, greedy's at the end of every slot and the rival's after every event. A queue grows only where it was
-- below its capacity, and by one packet: an arrival grows only its own queue, and a cycle moves at most one packet into an output queue.
-- Assumes nothing.
use Prim.Native.Nat.{ℕ, zero, suc, ◌+◌, ◌≤◌, ◌<◌}
use native.Mathlib.Decide.{ℕ_discrete}
use native.Mathlib.Omega.{arith}
use mathlib.Core.Path.{◌≡◌, ap, ap₂}
use mathlib.Core.Logic.{◌⊎◌, inl, inr, by_cases}
use mathlib.Core.List.{List, [], ◌∷◌}
use Rattle.bound.specs.Switch.{Config, Pair, Slot, Trace, State, same, on, count}
use Rattle.bound.specs.Greedy as G
use Rattle.bound.specs.Greedy.{outputs, AllLegal, none, more, Answer, Cycled, Greedy}
use Rattle.bound.specs.Rival.{Stage, Step, accepted, refused, arrivals_end, moved, cycle_ends, cycles_end, sent, discarded_in, discarded_out}
use Rattle.bound.specs.Rival.{Steps, done, ◌then◌, Rival, start, slot}
use Rattle.bound.proofs.Counts.{same_self, same_other, on_self, on_cases}
use Rattle.bound.proofs.History.{Kept, kept}

-- every queue is within its capacity
pub record Within (c : Config) (s : State) : Type 0 where
  pub inq : (i j : ℕ) → i < c.ports → j < c.ports → s.inq i j ≤ c.cap_in i j
  pub outq : (j : ℕ) → j < c.ports → s.outq j ≤ c.cap_out j

-- one packet more in a queue that had room
inq_grows : (p : Pair) (q cap : ℕ → ℕ → ℕ) → q p.input p.output < cap p.input p.output
    → (i j : ℕ) → q i j ≤ cap i j → q i j + on p i j ≤ cap i j
inq_grows p q cap room i j h = go (on_cases p i j)
  where
    go : (on p i j ≡ 0) ⊎ ((i ≡ p.input) × (j ≡ p.output)) → q i j + on p i j ≤ cap i j
    go (inl e) = omega arith
    go (inr e) = omega (arith, on_self p, ap₂ (on p) e.0 e.1, ap₂ q e.0 e.1, ap₂ cap e.0 e.1)

outq_grows : (b : ℕ) (q cap : ℕ → ℕ) → q b < cap b → (j : ℕ) → q j ≤ cap j → q j + same b j ≤ cap j
outq_grows b q cap room j h = by_cases (ℕ_discrete b j)
    (λ e. omega (arith, same_self b, ap (same b) e, ap q e, ap cap e))
    (λ d. omega (arith, same_other b j d))

-- an output queue into which a cycle moves a packet had room
had_room : (c : Config) (g : State) (m : List Pair) → AllLegal c g m → (j : ℕ) → 1 ≤ count (outputs m) j → g.outq j < c.cap_out j
unfolding count
had_room c g [] none j h = omega arith
had_room c g (p ∷ m) (more r x) j h = by_cases (ℕ_discrete p.output j)
    (λ e. omega (arith, r.eligible.room, ap g.outq e, ap c.cap_out e))
    (λ d. had_room c g m x j (omega (arith, same_other p.output j d)))

module _ (c : Config) where
  arrival_within : (p : Pair) (g h : State) → Answer c p g h → Within c g → (i j : ℕ) → i < c.ports → j < c.ports → h.inq i j ≤ c.cap_in i j
  arrival_within p g h (G.accepted room grows) w i j l m = omega (arith, grows i j l m, inq_grows p g.inq c.cap_in room i j (w.inq i j l m))
  arrival_within p g h (G.dropped full stays) w i j l m = omega (arith, stays i j l m, w.inq i j l m)

  cycle_within : (m : List Pair) (g h : State) → Cycled c m g h → Within c g → (j : ℕ) → j < c.ports → h.outq j ≤ c.cap_out j
  cycle_within m g h y w j l = go (count (outputs m) j) (y.output_once j l) (y.outq j l) (had_room c g m y.legal j)
    where
      go : (n : ℕ) → n ≤ 1 → h.outq j ≡ g.outq j + n → (1 ≤ n → g.outq j < c.cap_out j) → h.outq j ≤ c.cap_out j
      go zero once e room = omega (arith, w.outq j l)
      go (suc n) once e room = omega (arith, room (omega arith))

  greedy_keeps : Kept c (Within c)
  greedy_keeps = record {
    empty = λ g x. record { inq = λ i j l m. omega (arith, x.inq i j l m); outq = λ j l. omega (arith, x.outq j l) };
    arrived = λ p g h x w. record { inq = arrival_within p g h x.inq w; outq = λ j l. omega (arith, x.outq j l, w.outq j l) };
    cycled = λ m g h y w. record { inq = λ i j l k. omega (arith, y.inq i j l k, w.inq i j l k); outq = cycle_within m g h y w };
    sent = λ s g h z w. record {
      inq = λ i j l k. omega (arith, z.inq i j l k, w.inq i j l k);
      outq = λ j l. omega (arith, z.outq j l, w.outq j l);
    };
  }

  pub greedy_within : (trace : Trace) (n : ℕ) (g : State) → Greedy c trace n g → Within c g
  greedy_within trace n g x = kept c (Within c) greedy_keeps x

  pub step_within : {here : Slot} {at to : Stage} {s t : State} → Step c here at s to t → Within c s → Within c t
  step_within {s} (accepted {p = p} room) w = record {
    inq = λ i j l m. inq_grows p s.inq c.cap_in room i j (w.inq i j l m);
    outq = w.outq;
  }
  step_within refused w = w
  step_within arrivals_end w = w
  step_within {s} (moved p la lb fa fb waits room) w = record {
    inq = λ i j l m. omega (arith, w.inq i j l m);
    outq = λ j l. outq_grows p.output s.outq c.cap_out room j (w.outq j l);
  }
  step_within cycle_ends w = w
  step_within cycles_end w = w
  step_within (sent b l may fresh some) w = record { inq = w.inq; outq = λ j l. omega (arith, w.outq j l) }
  step_within (discarded_in p) w = record { inq = λ i j l m. omega (arith, w.inq i j l m); outq = w.outq }
  step_within (discarded_out b) w = record { inq = w.inq; outq = λ j l. omega (arith, w.outq j l) }

  pub steps_within : {here : Slot} {at to : Stage} {s t : State} → Steps c here at s to t → Within c s → Within c t
  steps_within done w = w
  steps_within (x then xs) w = steps_within xs (step_within x w)

  pub rival_within : {trace : Trace} {n : ℕ} {s : State} → Rival c trace n s → Within c s
  rival_within start = record { inq = λ i j l m. omega arith; outq = λ j l. omega arith }
  rival_within (slot x xs) = steps_within xs (rival_within x)
