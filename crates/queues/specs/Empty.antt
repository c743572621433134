-- Whether all queues of an input are empty. No rule of the paper: it lets the code pass over an input without a look at its queues one by one. It is
-- asked of 16 × 16 queues; of other lists, and past the last input, the answer is no.
use Rattle.std.specs.Prelude.{ℕ, Bool, ◌&&◌, List, length, get_or, eqb, ltb}
use Rattle.base.specs.Below.{all_below}
use Rattle.queues.specs.Queues.{place}

unfoldable pub row_empty : List ℕ → ℕ → Bool
row_empty l i = eqb (length l) 256 && (ltb i 16 && all_below (λ j. eqb (get_or l (place i j) 0) 0) 16)
