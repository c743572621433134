-- The order in which inputs are visited (document 01, "One slot"). Nothing else knows what lowest first and rotating mean.
use Rattle.std.specs.Prelude.{ℕ, ◌+◌, ◌%◌, Bool, true, false, cond, List, eqb, ltb}
use Rattle.base.specs.Below.{list_below}

-- which order words rotate; house order, word 0, means lowest first
unfoldable pub rotates : ℕ → Bool
rotates order = eqb order 2

-- the first input: 0 for lowest first, the slot number modulo N for rotating
unfoldable pub first_of : Bool → ℕ → ℕ → ℕ
first_of true ports slot = slot % ports
first_of false ports slot = 0

-- from the first input up, round past N − 1
unfoldable pub turn : ℕ → ℕ → ℕ → List ℕ
turn order ports slot = list_below (λ k. (first_of (rotates order) ports slot + k) % ports) ports

-- the same as the first N of 16 places, the others 0
unfoldable pub turn_places : ℕ → ℕ → ℕ → List ℕ
turn_places order ports slot =
    list_below (λ k. cond (ltb k ports) ((first_of (rotates order) ports slot + k) % ports) 0) 16
