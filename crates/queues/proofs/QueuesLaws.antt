-- The smallest changes of queues where nothing changes: past the end, in an empty queue, in a full one.
-- Assumes nothing.
use Prim.Native.Nat.{ℕ, zero, suc, ◌+◌, ◌-◌, ◌≤◌, ◌<◌, min}
use native.Mathlib.Nat.{add-zero, add-suc}
use native.Mathlib.Omega.{arith}
use mathlib.Core.Path.{◌≡◌, refl, sym, ap, ◌∙◌}
use mathlib.Core.Logic.{⊎_elim}
use mathlib.Core.Bool.{Bool, true, false, cond}
use mathlib.Core.List.{List}
use lib.ListN.{length, get_or, set, get_or-eq_default}
use lib.Seq.{set_out, set-get_or}
use borrow.Author.Tests.{lt-ltb, le-ltb}
use Rattle.base.specs.Below.{sum_below}
use Rattle.base.proofs.Order.{le_or_lt}
use Rattle.queues.specs.Queues.{has_room, more, fewer}

pub fewer_past : (l : List ℕ) (k : ℕ) → length l ≤ k → l ≡ fewer l k
unfolding fewer
fewer_past l k h = sym (set_out l k _ h)

pub fewer_empty : (l : List ℕ) (k : ℕ) → get_or l k 0 ≤ 0 → l ≡ fewer l k
unfolding fewer
fewer_empty l k h =
    let e : get_or l k 0 ≡ get_or l k 0 - 1 = omega arith in
    sym (set-get_or l k 0) ∙ ap (set l k) e

same_either : (b : Bool) (l m : List ℕ) → l ≡ m → l ≡ cond b m l
same_either true l m e = e
same_either false l m e = refl

pub joins_past : (cap l : List ℕ) (k : ℕ) → length l ≤ k → l ≡ cond (has_room cap l k) (more l k) l
unfolding more
joins_past cap l k h = same_either (has_room cap l k) l (more l k) (sym (set_out l k _ h))

pub joins_full : (cap l : List ℕ) (k : ℕ) → get_or cap k 0 ≤ get_or l k 0 → l ≡ cond (has_room cap l k) (more l k) l
unfolding has_room
joins_full cap l k h = rw (le-ltb (get_or l k 0) (get_or cap k 0) h)

pub joins_room : (cap l : List ℕ) (k : ℕ) → get_or l k 0 < get_or cap k 0 → more l k ≡ cond (has_room cap l k) (more l k) l
unfolding has_room
joins_room cap l k h = rw (lt-ltb (get_or l k 0) (get_or cap k 0) h)

-- past the last queue there are no packets
packets_past : (l : List ℕ) (n k : ℕ) → length l ≤ n → sum_below (λ m. get_or l m 0) (n + k) ≡ sum_below (λ m. get_or l m 0) n
unfolding sum_below
packets_past l n zero h = rw add-zero
packets_past l n (suc k) h = rw (add-suc n k, get_or-eq_default l 0 {n = n + k} (omega arith), add-zero) (packets_past l n k h)

pub packets_there : (l : List ℕ) (n k : ℕ) → k ≡ min (length l) n → sum_below (λ m. get_or l m 0) k ≡ sum_below (λ m. get_or l m 0) n
packets_there l n k e =
    ⊎_elim
    (λ (a : n ≤ length l). let same : k ≡ n = omega arith in rw same)
    (λ (b : length l < n).
    let rest : k + (n - k) ≡ n = omega arith in
    sym (packets_past l k (n - k) (omega arith)) ∙ ap (sum_below (λ m. get_or l m 0)) rest)
    (le_or_lt n (length l))
