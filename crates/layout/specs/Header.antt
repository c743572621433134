-- The header's numbers (document 01, "The trace file"): what each may be, and the places that they give the tables. Reader and
-- writer share this layout.
use Rattle.std.specs.Prelude.{ℕ, ◌+◌, ◌*◌, Bool, ◌&&◌, ◌||◌, cond, leb, eqb, Result}
use Rattle.base.specs.declared.Refusal.{Refusal}
use Rattle.base.specs.Refusal.{unless, ◌⨟◌, judged}
use Rattle.layout.specs.declared.Header.{Header}
use Rattle.layout.specs.declared.Places.{Places}

-- 1 CIOQ, 2 buffered crossbar
unfoldable pub model_allowed : ℕ → Bool
model_allowed m = eqb m 1 || eqb m 2

-- 0 house order, 1 lowest first, 2 rotating
unfoldable pub order_allowed : ℕ → Bool
order_allowed o = leb o 2

-- ports and speedup: 1 to 16
unfoldable pub side_allowed : ℕ → Bool
side_allowed n = leb 1 n && leb n 16

-- slots and arrivals: 0 to 4,096
unfoldable pub count_allowed : ℕ → Bool
count_allowed n = leb n 4096

-- the refusals 2 to 7, of the header's own numbers
unfoldable pub header_refusal : Header → ℕ
header_refusal h =
    unless (model_allowed h.model) 2
    ⨟ unless (order_allowed h.order) 3
    ⨟ unless (side_allowed h.ports) 4
    ⨟ unless (side_allowed h.speedup) 5
    ⨟ unless (count_allowed h.slots) 6
    ⨟ unless (count_allowed h.arrivals) 7

-- which models have a queue at each crosspoint
unfoldable pub has_crosspoints : ℕ → Bool
has_crosspoints m = eqb m 2

-- N × N input queues, then N output queues, then for model 2 only N × N crosspoint queues
unfoldable pub capacity_count : Header → ℕ
capacity_count h = h.ports * h.ports + h.ports + cond (has_crosspoints h.model) (h.ports * h.ports) 0

-- the tables: 16 bits for each capacity, 16 for each slot, two bytes for each arrival. Each starts where the one before it ends
abbrev pub capacities_at : ℕ
capacities_at = 40

unfoldable pub slot_counts_at : Header → ℕ
slot_counts_at h = capacities_at + 2 * capacity_count h

unfoldable pub arrivals_at : Header → ℕ
arrivals_at h = slot_counts_at h + 2 * h.slots

unfoldable pub total_of : Header → ℕ
total_of h = arrivals_at h + 2 * h.arrivals

unfoldable pub places_of : Header → Places
places_of h = record { capacities = capacity_count h; counts = slot_counts_at h; arrivals = arrivals_at h; total = total_of h }

-- the places of a header, or the refusal of its numbers
unfoldable pub laid_out : Header → Result Places Refusal
laid_out h = judged (header_refusal h) (places_of h)
