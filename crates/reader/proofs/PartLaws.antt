-- The part of a slot, from what its counts add up to.
-- Assumes nothing.
use Rattle.std.proofs.Common.{◌≡◌, ℕ, List, ◌+◌, ◌*◌}
use Rattle.std.specs.Prelude.{Ok}
use Rattle.base.specs.Below.{sum_below}
use Rattle.trace.specs.declared.Standing.TheVariants.{Arrivals}
use Rattle.trace.specs.Reading.{half, word, slot_count}
use Rattle.trace.specs.Slots.{before, standing, part_from, part_at, slot_part}

pub part_at_lem : (s : List ℕ) (t sum : ℕ) → standing s t ≡ Ok Arrivals → sum ≡ sum_below (λ t. half s (word s 28 + 2 * t)) t → part_from s t sum ≡ slot_part s t
unfolding slot_part part_at before slot_count
part_at_lem s t sum e a = rw (e, a)
