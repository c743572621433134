-- Each contract of this crate allows one answer: two that meet it are equal. Where the answer holds the slot's part, its bytes are
-- told and not where they lie, so two such answers are the same in all but that.
-- Assumes nothing.
use Prim.Native.Nat.{ℕ}
use mathlib.Core.Path.{◌≡◌}
use mathlib.Core.List.{List}
use denote.Ref.{Bor}
use Rattle.std.specs.Prelude.{Option, Result}
use Rattle.base.specs.declared.Refusal.{Refusal}
use Rattle.base.proofs.Unique.{determined}
use Rattle.trace.specs.Slots.{standing, slot_part}
use Rattle.reader.specs.declared.Reader.{Reader}
use Rattle.reader.specs.Requests.{slot_after, part_of, standing_of, Answered}

-- a reader is its trace and its slot
reader_one : (s : Bor (List ℕ)) (t : ℕ) (q r : Reader) → (q.trace ≡ s) × (q.slot ≡ t) → (r.trace ≡ s) × (r.slot ≡ t) → q ≡ r
reader_one s t q r x y = λ i. record { trace = determined x.0 y.0 i; slot = determined x.1 y.1 i }

pub new_one : (s : Bor (List ℕ)) (q r : Reader) → (q.trace ≡ s) × (q.slot ≡ 0) → (r.trace ≡ s) × (r.slot ≡ 0) → q ≡ r
new_one s = reader_one s 0

-- two answers that say the same of the slot, with the same bytes of arrivals
pub record Same (h j : Result (Option (Bor (List ℕ))) Refusal) : Type 0 where
  pub part : part_of h ≡ part_of j
  pub standing : standing_of h ≡ standing_of j

pub next_one : (r p q : Reader) (h j : Result (Option (Bor (List ℕ))) Refusal) → Answered r p h → Answered r q j → Same h j × (p ≡ q)
next_one r p q h j x y = (
  record { part = determined x.part y.part; standing = determined x.standing y.standing },
  reader_one r.trace (slot_after r.trace.now r.slot) p q (x.trace, x.slot) (y.trace, y.slot),
)

pub second_one : (s : List ℕ) (x y : Result (Option (Bor (List ℕ))) Refusal) → (standing_of x ≡ standing s (slot_after s 0)) × (part_of x ≡ slot_part s (slot_after s 0)) → (standing_of y ≡ standing s (slot_after s 0)) × (part_of y ≡ slot_part s (slot_after s 0)) → Same x y
second_one s x y v w = record { part = determined v.1 w.1; standing = determined v.0 w.0 }
