-- `layout::places_of` meets its contract.
-- Assumes nothing.
use Prim.Native.Nat.{ℕ, ◌+◌, ◌*◌}
use mathlib.Core.Path.{ap}
use Rattle.layout.specs.Header.{places_of, slot_counts_at, arrivals_at, total_of}
use Rattle.layout.proofs.places_of.Goals as goal

pub returns : goal.returns
unfolding places_of slot_counts_at arrivals_at total_of
returns c =
    let h = c.args.h in
    ap
    (λ (n : ℕ).
    record {
      capacities = n;
      counts = 40 + 2 * n;
      arrivals = 40 + 2 * n + 2 * h.slots;
      total = 40 + 2 * n + 2 * h.slots + 2 * h.arrivals;
    })
    c.capacity_count-capacities.ensures.0
