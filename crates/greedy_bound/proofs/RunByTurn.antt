-- The run of document 01 is a run by orders: the one in which every cycle of slot t visits the inputs in slot t's turn, and every output may send.
-- Assumes nothing.
use Prim.Native.Nat.{ℕ, zero, suc, ◌≤◌, ◌<◌}
use native.Mathlib.Omega.{arith}
use mathlib.Core.Path.{◌≡◌, refl, sym, ap, ap₂, ◌∙◌}
use mathlib.Core.Bool.{Bool, cond}
use mathlib.Core.List.{List}
use borrow.Author.Tests.{lt-ltb}
use Rattle.layout.specs.Header.{has_crosspoints}
use Rattle.trace.specs.Reading.{header_of, slot_count, reading}
use Rattle.trace.specs.Slots.{before}
use Rattle.queues.specs.Slot.{free}
use Rattle.queues.specs.Turn.{turn}
use Rattle.run.specs.Run.{History, arrivals, closed, slots}
use Rattle.run.proofs.HistoryLaws.{slot_allowed}
use Rattle.greedy_bound.specs.Rivalry.{arrive_in}
use Rattle.greedy_bound.specs.Orders.{closed_by, slots_by}
use Rattle.greedy_bound.proofs.Slots.{closed_by_lem}

module _ (s : List ℕ) (r : reading s ≡ 0) (m : (header_of s).model ≡ 1) where
  turns : ℕ → ℕ → List ℕ
  turns t k = turn (header_of s).order (header_of s).ports t

  closed_in_turn : (t : ℕ) → t < (header_of s).slots
      → (let b = arrivals s (slots s t) (before s t) (slot_count s t) in closed b ≡ closed_by (turns t) free b)
  unfolding has_crosspoints turns
  closed_in_turn t h =
      let b = arrivals s (slots s t) (before s t) (slot_count s t) in
      let a = slot_allowed s r t (slot_count s t) h (omega arith) in
      closed_by_lem b (rw (a.model, m)) ∙ ap (λ (order : List ℕ). closed_by (λ k. order) free b) (rw (a.order, a.ports, a.slot))

  pub run_by_turn : (t : ℕ) → t ≤ (header_of s).slots → slots s t ≡ slots_by (λ t k. turn (header_of s).order (header_of s).ports t) (λ t. free) s t
  unfolding slots slots_by arrive_in turns
  run_by_turn zero h = refl
  run_by_turn (suc t) h =
      let inside : arrive_in s t ≡ slot_count s t = ap (λ (b : Bool). cond b (slot_count s t) 0) (lt-ltb t (header_of s).slots h) in
      closed_in_turn t h ∙ ap₂ (λ (g : History) (n : ℕ). closed_by (turns t) free (arrivals s g (before s t) n)) (run_by_turn t (omega arith)) (sym inside)
