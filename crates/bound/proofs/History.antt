-- Histories of greedy matching: what each of its steps keeps holds at the end of every slot; and arrivals and cycles may also be added at the end, which is
-- how a definition by recursion over what is done builds them.
-- Assumes nothing.
use Prim.Native.Nat.{ℕ, suc}
use mathlib.Core.List.{List, [], ◌∷◌, ◌++◌}
use Rattle.bound.specs.Switch.{Config, Pair, Slot, Trace, State}
use Rattle.bound.specs.Greedy.{Empty, Arrived, Cycled, Sent, Arrivals, Cycles, Greedy, none, more, start, slot}

module _ (c : Config) where
  pub arrivals_snoc : {l : List Pair} {p : Pair} {g h e : State} → Arrivals c l g h → Arrived c p h e → Arrivals c (l ++ (p ∷ [])) g e
  arrivals_snoc none a = more a none
  arrivals_snoc (more x xs) a = more x (arrivals_snoc xs a)

  pub cycles_snoc : {m : List Pair} {k : ℕ} {g h e : State} → Cycles c k g h → Cycled c m h e → Cycles c (suc k) g e
  cycles_snoc none a = more a none
  cycles_snoc (more x xs) a = more x (cycles_snoc xs a)

-- P holds at the start, and each of greedy's steps keeps it
pub record Kept (c : Config) (P : State → Type 0) : Type 0 where
  pub empty : (g : State) → Empty c g → P g
  pub arrived : (p : Pair) (g h : State) → Arrived c p g h → P g → P h
  pub cycled : (m : List Pair) (g h : State) → Cycled c m g h → P g → P h
  pub sent : (s : Slot) (g h : State) → Sent c s g h → P g → P h

module _ (c : Config) (P : State → Type 0) (k : Kept c P) where
  over_arrivals : {l : List Pair} {g h : State} → Arrivals c l g h → P g → P h
  over_arrivals none a = a
  over_arrivals (more {p = p} {g = g} {h = h} x xs) a = over_arrivals xs (k.arrived p g h x a)

  over_cycles : {n : ℕ} {g h : State} → Cycles c n g h → P g → P h
  over_cycles none a = a
  over_cycles (more {m = m} {g = g} {h = h} x xs) a = over_cycles xs (k.cycled m g h x a)

  pub kept : {trace : Trace} {n : ℕ} {g : State} → Greedy c trace n g → P g
  kept (start {g = g} x) = k.empty g x
  kept {trace} (slot {n = n} {e = e} x a) =
      k.sent (trace n) a.matched e a.sending (over_cycles a.cycles (over_arrivals a.arrivals (kept x)))
