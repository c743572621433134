-- `switch::judge::kind_allowed` meets its contract. The invariant: each place passed is allowed.
-- Assumes nothing.
use Rattle.std.proofs.Common.{◌≡◌, ℕ, Bool, true, ◌<◌, get_or}
use Rattle.base.specs.Below.{all_below}
use Rattle.switch.specs.Allowed.{queue_allowed}
use Rattle.switch.proofs.judge.kind_allowed.Given as goal

abbrev pub invariant-loop-k : goal.invariant-loop-k
invariant-loop-k g l =
    (f : ℕ → Bool) → ((k : ℕ) (b : Bool) → k < l.k-end → goal.F-post g l.used k b → b ≡ f k)
    → all_below (λ k. queue_allowed (f k) (get_or l.cap k 0) (get_or l.len k 0)) l.k ≡ true
