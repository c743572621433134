-- Bench case C7: four ports, speedup 4, every capacity 4, and in one slot input 0 gets four packets for output 0 and one each for 1, 2 and 3. Greedy moves the
-- four packets for output 0, one in each cycle, and sends 1 of them. A rival moves one packet for each output and sends 4. So the claim that no rival ever has
-- more than three times what greedy has sent is false: what stands in greedy's output queues has to be counted, and makes the limit 9.
-- Assumes nothing.
use Prim.Native.Nat.{ℕ, zero, suc, ◌+◌, ◌-◌, ◌*◌, ◌≤◌, ◌<◌}
use native.Mathlib.Omega.{arith}
use mathlib.Core.Bool.{true}
use mathlib.Core.Path.{◌≡◌, refl, sym, subst}
use mathlib.Core.List.{List, [], ◌∷◌}
use Rattle.base.specs.Below.{sum_below}
use Rattle.bound.specs.Switch.{Config, Pair, ◌⇢◌, Slot, Trace, State, empty, same, on, count}
use Rattle.bound.specs.Greedy as G
use Rattle.bound.specs.Greedy.{along, Eligible, Cycled, ready, Arrivals, Cycles, Greedy, none, more, limit}
use Rattle.bound.specs.Rival as R
use Rattle.bound.specs.Rival.{Stage, arriving, crossing, sending, joins, crosses, departs, Step, accepted, arrivals_end, moved, cycle_ends, cycles_end, sent}
use Rattle.bound.specs.Rival.{Steps, done, ◌then◌, Rival}

abbrev pub c7 : Config
c7 = record { ports = 4; cap_in = λ i j. 4; cap_out = λ j. 4; speedup = 4 }

abbrev pub arrivals : List Pair
arrivals = (0 ⇢ 0) ∷ (0 ⇢ 0) ∷ (0 ⇢ 0) ∷ (0 ⇢ 0) ∷ (0 ⇢ 1) ∷ (0 ⇢ 2) ∷ (0 ⇢ 3) ∷ []

abbrev pub trace : Trace
trace n = record { arrivals = arrivals; may_send = λ j. true }

-- after the arrivals, all of which both accept
abbrev pub loaded : State
loaded = joins (0 ⇢ 3) (joins (0 ⇢ 2) (joins (0 ⇢ 1) (joins (0 ⇢ 0) (joins (0 ⇢ 0) (joins (0 ⇢ 0) (joins (0 ⇢ 0) empty))))))

-- greedy after so many cycles
abbrev pub cycled : ℕ → State
cycled zero = loaded
cycled (suc k) = crosses (0 ⇢ 0) (cycled k)

-- greedy at the end of the slot
abbrev pub greedy_end : State
greedy_end = departs 0 (cycled 4)

-- the rival at the end of the slot
abbrev pub rival_end : State
rival_end = departs 3 (departs 2 (departs 1 (departs 0 (crosses (0 ⇢ 3) (crosses (0 ⇢ 2) (crosses (0 ⇢ 1) (crosses (0 ⇢ 0) loaded)))))))

-- a switch and a slot with which C7's rival can do what it does
pub record Allows (c : Config) (slot : Slot) : Type 0 where
  pub ports : 4 ≤ c.ports
  pub speedup : c.speedup ≡ 4
  pub arrivals : slot.arrivals ≡ arrivals
  pub cap_in : (4 ≤ c.cap_in 0 0) × (1 ≤ c.cap_in 0 1) × (1 ≤ c.cap_in 0 2) × (1 ≤ c.cap_in 0 3)
  pub cap_out : (1 ≤ c.cap_out 0) × (1 ≤ c.cap_out 1) × (1 ≤ c.cap_out 2) × (1 ≤ c.cap_out 3)
  pub may_send : (slot.may_send 0 ≡ true) × (slot.may_send 1 ≡ true) × (slot.may_send 2 ≡ true) × (slot.may_send 3 ≡ true)

infixr 20 ◌▸◌
-- the rival's events, with what each asks for put together
◌▸◌ : {c : Config} {slot : Slot} {a b d : Stage} {s t u : State} → Step c slot a s b t → Steps c slot b t d u → Steps c slot a s d u
x ▸ xs = x then xs

module _ (c : Config) (slot : Slot) where
  accepts : {p : Pair} {l : List Pair} {s : State} → s.inq p.input p.output < c.cap_in p.input p.output
      → Step c slot (arriving (p ∷ l)) s (arriving l) (joins p s)
  accepts {p} {l} {s} room = accepted {p = p} {l = l} {s = s} (omega arith)

  moves : (p : Pair) {k : ℕ} {ins outs : List ℕ} {s : State} → (p.input < c.ports) × (p.output < c.ports) × (count ins p.input ≡ 0)
      × (count outs p.output ≡ 0) × (1 ≤ s.inq p.input p.output) × (s.outq p.output < c.cap_out p.output)
      → Step c slot (crossing (suc k) ins outs) s (crossing (suc k) (p.input ∷ ins) (p.output ∷ outs)) (crosses p s)
  moves p {k} {ins} {outs} {s} h =
      moved p {k = k} {ins = ins} {outs = outs} {s = s} (omega arith) (omega arith) (omega arith) (omega arith) (omega arith) (omega arith)

  sends : (j : ℕ) {outs : List ℕ} {s : State} → slot.may_send j ≡ true → (j < c.ports) × (count outs j ≡ 0) × (1 ≤ s.outq j)
      → Step c slot (sending outs) s (sending (j ∷ outs)) (departs j s)
  sends j {outs} {s} may h = sent j {outs = outs} {s = s} (omega arith) may (omega arith) (omega arith)

  module _ (a : Allows c slot) where
    after_arrivals : Steps c slot (crossing 4 [] []) loaded (sending (3 ∷ 2 ∷ 1 ∷ 0 ∷ [])) rival_end
    unfolding same on count
    after_arrivals =
        moves (0 ⇢ 0) (omega arith)
        ▸ cycle_ends
        ▸ moves (0 ⇢ 1) (omega arith)
        ▸ cycle_ends
        ▸ moves (0 ⇢ 2) (omega arith)
        ▸ cycle_ends
        ▸ moves (0 ⇢ 3) (omega arith)
        ▸ cycle_ends
        ▸ cycles_end
        ▸ sends 0 a.may_send.0 (omega arith)
        ▸ sends 1 a.may_send.1 (omega arith)
        ▸ sends 2 a.may_send.2 (omega arith)
        ▸ sends 3 a.may_send.3 (omega arith)
        ▸ done

    from_arrivals : Steps c slot (arriving arrivals) empty (sending (3 ∷ 2 ∷ 1 ∷ 0 ∷ [])) rival_end
    unfolding same on
    from_arrivals =
        accepts (omega arith)
        ▸ accepts (omega arith)
        ▸ accepts (omega arith)
        ▸ accepts (omega arith)
        ▸ accepts (omega arith)
        ▸ accepts (omega arith)
        ▸ accepts (omega arith)
        ▸ arrivals_end
        ▸ subst (λ (n : ℕ). Steps c slot (crossing n [] []) loaded (sending (3 ∷ 2 ∷ 1 ∷ 0 ∷ [])) rival_end) (sym a.speedup) after_arrivals

    pub rival_slot : Steps c slot (arriving slot.arrivals) empty (sending (3 ∷ 2 ∷ 1 ∷ 0 ∷ [])) rival_end
    rival_slot = subst (λ (l : List Pair). Steps c slot (arriving l) empty (sending (3 ∷ 2 ∷ 1 ∷ 0 ∷ [])) rival_end) (sym a.arrivals) from_arrivals

-- the rival's history, wherever its first slot allows it
pub plays : (c : Config) (t : Trace) → Allows c (t 0) → Rival c t 1 rival_end
plays c t a = R.slot R.start (rival_slot c (t 0) a)

pub rival : Rival c7 trace 1 rival_end
rival =
    plays c7 trace (record {
      ports = omega arith;
      speedup = refl;
      arrivals = refl;
      cap_in = omega arith;
      cap_out = omega arith;
      may_send = (refl, refl, refl, refl);
    })

takes : {p : Pair} {l : List Pair} {g e : State} → g.inq p.input p.output < 4 → Arrivals c7 l (joins p g) e → Arrivals c7 (p ∷ l) g e
takes room xs = more (record { inq = G.accepted room (λ i j l m. refl); outq = λ j l. refl; crossed = refl; sent = refl }) xs

greedy_arrivals : Arrivals c7 (trace 0).arrivals empty loaded
unfolding same on
greedy_arrivals =
    takes (omega arith) (takes (omega arith) (takes (omega arith) (takes (omega arith)
    (takes (omega arith) (takes (omega arith) (takes (omega arith) none))))))

-- where only input 0 holds packets, the pair (0, 0) by itself is a maximal matching
module _ (g : State) (waits : 1 ≤ g.inq 0 0) (room : g.outq 0 < 4) (rest : (i j : ℕ) → g.inq (suc i) j ≡ 0) where
  once : (k : ℕ) → k < 4 → count (0 ∷ []) k ≤ 1
  unfolding count same
  once zero l = omega arith
  once (suc k) l = omega arith

  maximal : (i j : ℕ) → i < 4 → j < 4 → Eligible c7 g i j → 1 ≤ count (0 ∷ []) i + count (0 ∷ []) j
  unfolding count same
  maximal zero j l m x = omega arith
  maximal (suc i) j l m x = omega (arith, x.waits, rest i j)

  leaves : (i j : ℕ) → i < 4 → j < 4 → (g.inq i j - on (0 ⇢ 0) i j) + along ((0 ⇢ 0) ∷ []) i j ≡ g.inq i j
  unfolding along on same
  leaves zero zero l m = omega arith
  leaves zero (suc j) l m = omega arith
  leaves (suc i) j l m = omega (arith, rest i j)

  cycles_once : Cycled c7 ((0 ⇢ 0) ∷ []) g (crosses (0 ⇢ 0) g)
  unfolding count
  cycles_once = record {
    legal = more {p = 0 ⇢ 0} (record { input = omega arith; output = omega arith; eligible = record { waits = waits; room = room } }) none;
    input_once = once;
    output_once = once;
    maximal = maximal;
    inq = leaves;
    outq = λ j l. omega arith;
    crossed = refl;
    sent = refl;
  }

greedy_cycles : Cycles c7 4 loaded (cycled 4)
unfolding same on
greedy_cycles =
    more (cycles_once (cycled 0) (omega arith) (omega arith) (λ i j. omega arith))
    (more (cycles_once (cycled 1) (omega arith) (omega arith) (λ i j. omega arith))
    (more (cycles_once (cycled 2) (omega arith) (omega arith) (λ i j. omega arith))
    (more (cycles_once (cycled 3) (omega arith) (omega arith) (λ i j. omega arith)) none)))

stands : (j : ℕ) → j < 4 → greedy_end.outq j + G.sends (trace 0) (cycled 4) j ≡ (cycled 4).outq j
unfolding same ready
stands zero l = refl
stands (suc j) l = refl

pub greedy : Greedy c7 trace 1 greedy_end
unfolding sum_below ready same
greedy = G.slot (G.start (record { inq = λ i j l m. refl; outq = λ j l. refl; crossed = refl; sent = refl })) (record {
  loaded = loaded;
  matched = cycled 4;
  arrivals = greedy_arrivals;
  cycles = greedy_cycles;
  sending = record { inq = λ i j l m. refl; outq = stands; crossed = refl; sent = refl };
})

-- greedy sends 1 and leaves three in output queue 0, a rival sends 4, and the limit is 9
pub c7_numbers : (greedy_end.sent ≡ 1) × (greedy_end.outq 0 ≡ 3) × (sum_below greedy_end.outq 4 ≡ 3) × (rival_end.sent ≡ 4) × (limit c7 greedy_end ≡ 9)
unfolding limit sum_below same
c7_numbers = (refl, refl, refl, refl, refl)

-- three times the sent packets, claimed at every slot, is false
pub three_times_fails : ¬ ((c : Config) (t : Trace) (n : ℕ) (g s : State) → Greedy c t n g → Rival c t n s → s.sent ≤ 3 * g.sent)
three_times_fails claim = omega (arith, claim c7 trace 1 greedy_end rival_end greedy rival)
