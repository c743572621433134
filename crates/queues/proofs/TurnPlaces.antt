-- The first N of the 16 places that the code fills are the inputs in turn.
-- Assumes nothing.
use Prim.Native.Nat.{ℕ, ◌+◌, ◌%◌, ◌≤◌, min}
use native.Mathlib.Omega.{arith}
use mathlib.Core.Path.{◌≡◌, sym, ap, ◌∙◌}
use mathlib.Core.Bool.{cond}
use mathlib.Core.List.{List}
use lib.ListN.{length, take}
use lib.Dec.{ltb}
use lib.Seq.{get_or-take, length-take-le}
use borrow.Author.Tests.{lt-ltb}
use Rattle.base.specs.Below.{list_below}
use Rattle.base.proofs.Listed.{length_listed, listed_at, listed_is}
use Rattle.queues.specs.Turn.{first_of, rotates, turn, turn_places}

module _ (order ports slot : ℕ) (few : ports ≤ 16) where
  pub places_in_turn : take (min ports 16) (turn_places order ports slot) ≡ turn order ports slot
  unfolding turn turn_places
  places_in_turn =
      let places : List ℕ = list_below (λ k. cond (ltb k ports) ((first_of (rotates order) ports slot + k) % ports) 0) 16 in
      let long : length places ≡ 16 = length_listed (λ k. cond (ltb k ports) ((first_of (rotates order) ports slot + k) % ports) 0) 16 in
      let n : min ports 16 ≡ ports = omega arith in
      ap (λ (m : ℕ). take m places) n
      ∙ sym
      (listed_is (λ k. (first_of (rotates order) ports slot + k) % ports) ports (take ports places) (length-take-le ports places (omega arith))
      (λ k h.
      sym
      (get_or-take ports places k 0 h
      ∙ listed_at (λ k. cond (ltb k ports) ((first_of (rotates order) ports slot + k) % ports) 0) 16 k (omega arith)
      ∙ rw (lt-ltb k ports h))))
