-- What the three tables may hold (document 01, refusals 9 to 11), whoever hands them in: the reader out of the trace, the writer out
-- of the lent tables. `cap k` is capacity k, `count t` the arrivals of slot t, and `port b` byte b of the arrivals' table: of arrival a
-- the input port is byte 2 × a, and the output port the one after it.
use Rattle.std.specs.Prelude.{ℕ, ◌*◌, Bool, ◌&&◌, leb, ltb, eqb}
use Rattle.base.specs.Below.{all_below, sum_below}
use Rattle.base.specs.Refusal.{unless, ◌⨟◌}
use Rattle.layout.specs.declared.Header.{Header}
use Rattle.layout.specs.Header.{capacity_count}

-- 1 to 1,024
unfoldable pub capacity_allowed : ℕ → Bool
capacity_allowed c = leb 1 c && leb c 1024

unfoldable pub capacities_allowed : Header → (ℕ → ℕ) → Bool
capacities_allowed h cap = all_below (λ k. capacity_allowed (cap k)) (capacity_count h)

-- the slot counts add up to the arrivals
unfoldable pub counts_add_up : Header → (ℕ → ℕ) → Bool
counts_add_up h count = eqb (sum_below count h.slots) h.arrivals

-- no arrival's port is N or more
unfoldable pub ports_below : Header → (ℕ → ℕ) → Bool
ports_below h port = all_below (λ b. ltb (port b) h.ports) (2 * h.arrivals)

unfoldable pub tables_refusal : Header → (ℕ → ℕ) → (ℕ → ℕ) → (ℕ → ℕ) → ℕ
tables_refusal h cap count port =
    unless (capacities_allowed h cap) 9
    ⨟ unless (counts_add_up h count) 10
    ⨟ unless (ports_below h port) 11
