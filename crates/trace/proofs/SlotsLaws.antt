-- What stands at a slot, and the counts before it.
-- Assumes nothing.
use Prim.Native.Nat.{ℕ, ◌<◌, ◌≤◌}
use mathlib.Core.Path.{◌≡◌, refl}
use mathlib.Core.Bool.{Bool, true, false, cond}
use mathlib.Core.List.{List}
use lib.Dec.{ltb}
use borrow.Author.Tests.{ltb-true}
use Rattle.std.specs.Prelude.{Result, Ok, Err}
use Rattle.base.specs.declared.Refusal.{Refusal}
use Rattle.layout.specs.declared.Header.{Header}
use Rattle.trace.specs.declared.Standing.{Standing}
use Rattle.trace.specs.declared.Standing.TheVariants.{Arrivals, NoMore}
use Rattle.trace.specs.Reading.{header_of, reading, verdict}
use Rattle.trace.specs.Slots.{standing_in, standing}
use Rattle.layout.proofs.HeaderLaws.{allowed}
use Rattle.trace.proofs.ReadingLaws.{whole, accepted}

-- arrivals stand only in an accepted trace, at a slot below its slots
pub stands_below : (s : List ℕ) (t : ℕ) → standing s t ≡ Ok Arrivals → (reading s ≡ 0) × (t < (header_of s).slots)
unfolding standing standing_in
stands_below s t e = by_verdict (verdict s) refl e
  where
    by_test : (b : Bool) → ◌≡◌ {A = Result Standing Refusal} (Ok (cond b Arrivals NoMore)) (Ok Arrivals) → b ≡ true
    by_test true e = refl
    by_test false e = cc

    by_verdict : (v : Result Header Refusal) → verdict s ≡ v → standing_in v t ≡ Ok Arrivals → (reading s ≡ 0) × (t < (header_of s).slots)
    by_verdict (Ok h) v e =
        let a = accepted s h v in
        let l = ltb-true t h.slots (by_test (ltb t h.slots) e) in
        (a.0, rw a.1 at l)
    by_verdict (Err n) v e = cc

pub slots_few : (s : List ℕ) → reading s ≡ 0 → (header_of s).slots ≤ 4096
slots_few s e = (allowed (header_of s) (whole s e).header).slots
