-- One queue among those of its kind: what its tests say of its length, and what one packet more or fewer does to the lengths, to their
-- bounds and to their sum. A place past the end of the list reads as 0, so it neither waits nor gains, and a store there does nothing.
-- Assumes nothing.
use Prim.Native.Nat.{ℕ, ◌+◌, ◌-◌, ◌/◌, ◌%◌, ◌≤◌, ◌<◌}
use native.Mathlib.Omega.{arith}
use mathlib.Core.Path.{◌≡◌, refl, ◌∙◌}
use mathlib.Core.Logic.{⊎_elim, ◌≢◌}
use mathlib.Core.Bool.{true, false}
use mathlib.Core.List.{List}
use lib.ListN.{length, get_or, length-set, get_or-eq_default}
use lib.Seq.{get_or-set_same, get_or-set_other, set_out}
use borrow.Author.Tests.{ltb-true, ltb-false, lt-ltb, le-ltb}
use Rattle.base.proofs.Cases.{same_or_not}
use Rattle.base.proofs.Order.{le_or_lt}
use Rattle.base.proofs.Sums.{total, sum_set}
use Rattle.queues.specs.Queues.{place, waits, has_room, more, fewer}

-- no queue is above its capacity
abbrev pub Within : List ℕ → List ℕ → Type 0
Within cap l = (k : ℕ) → get_or l k 0 ≤ get_or cap k 0

-- p is as long as l, and no queue of p is above its capacity where none of l is
pub record Alike (cap l p : List ℕ) : Type 0 where
  pub same_length : length p ≡ length l
  pub within : Within cap l → Within cap p

pub alike_same : {cap l : List ℕ} → Alike cap l l
alike_same = record { same_length = refl; within = λ w. w }

pub alike_then : {cap l p r : List ℕ} → Alike cap l p → Alike cap p r → Alike cap l r
alike_then a b = record { same_length = b.same_length ∙ a.same_length; within = λ w. b.within (a.within w) }

-- a place that reads as more than 0 is in the list
pub inside : (l : List ℕ) (k : ℕ) → 1 ≤ get_or l k 0 → k < length l
inside l k h =
    ⊎_elim
    (λ (o : length l ≤ k). let z = get_or-eq_default l 0 {n = k} o in absurd (omega arith))
    (λ (o : k < length l). o)
    (le_or_lt (length l) k)

module _ (l : List ℕ) (k : ℕ) where
  pub waits_some : waits l k ≡ true → 1 ≤ get_or l k 0
  unfolding waits
  waits_some h = ltb-true 0 (get_or l k 0) h

  pub waits_none : waits l k ≡ false → get_or l k 0 ≡ 0
  unfolding waits
  waits_none h = omega (arith, ltb-false 0 (get_or l k 0) h)

  pub some_waits : 1 ≤ get_or l k 0 → waits l k ≡ true
  unfolding waits
  some_waits h = lt-ltb 0 (get_or l k 0) h

  pub none_waits : get_or l k 0 ≡ 0 → waits l k ≡ false
  unfolding waits
  none_waits h = le-ltb 0 (get_or l k 0) (omega arith)

  pub waits_inside : waits l k ≡ true → k < length l
  waits_inside h = inside l k (waits_some h)

  pub length_more : length (more l k) ≡ length l
  unfolding more
  length_more = length-set l k (get_or l k 0 + 1)

  pub length_fewer : length (fewer l k) ≡ length l
  unfolding fewer
  length_fewer = length-set l k (get_or l k 0 - 1)

  pub more_here : k < length l → get_or (more l k) k 0 ≡ get_or l k 0 + 1
  unfolding more
  more_here h = get_or-set_same l k (get_or l k 0 + 1) 0 h

  pub more_other : (m : ℕ) → m ≢ k → get_or (more l k) m 0 ≡ get_or l m 0
  unfolding more
  more_other m d = get_or-set_other l k m (get_or l k 0 + 1) 0 d

  pub fewer_other : (m : ℕ) → m ≢ k → get_or (fewer l k) m 0 ≡ get_or l m 0
  unfolding fewer
  fewer_other m d = get_or-set_other l k m (get_or l k 0 - 1) 0 d

  pub fewer_here : get_or (fewer l k) k 0 ≡ get_or l k 0 - 1
  unfolding fewer
  fewer_here =
      ⊎_elim
      (λ (o : length l ≤ k). let z = get_or-eq_default l 0 {n = k} o in rw (set_out l k (get_or l k 0 - 1) o) (omega arith))
      (λ (o : k < length l). get_or-set_same l k (get_or l k 0 - 1) 0 o)
      (le_or_lt (length l) k)

  -- a packet that comes leaves no queue shorter, and one that goes leaves none longer
  pub more_grows : (m : ℕ) → get_or l m 0 ≤ get_or (more l k) m 0
  unfolding more
  more_grows m =
      ⊎_elim
      (λ (o : length l ≤ k). rw (set_out l k (get_or l k 0 + 1) o) (omega arith))
      (λ (o : k < length l).
      ⊎_elim
      (λ (s : m ≡ k). rw s (omega (arith, get_or-set_same l k (get_or l k 0 + 1) 0 o)))
      (λ (d : m ≢ k). omega (arith, get_or-set_other l k m (get_or l k 0 + 1) 0 d))
      (same_or_not m k))
      (le_or_lt (length l) k)

  pub fewer_falls : (m : ℕ) → get_or (fewer l k) m 0 ≤ get_or l m 0
  fewer_falls m =
      ⊎_elim
      (λ (s : m ≡ k). rw s (omega (arith, fewer_here)))
      (λ (d : m ≢ k). omega (arith, fewer_other m d))
      (same_or_not m k)

  -- the sum of all queues
  pub total_more : (n : ℕ) → k < length l → length l ≤ n → total (more l k) n ≡ total l n + 1
  unfolding more
  total_more n h b = omega (arith, sum_set l n k (get_or l k 0 + 1) (omega arith) h)

  pub total_fewer : (n : ℕ) → waits l k ≡ true → length l ≤ n → total (fewer l k) n + 1 ≡ total l n
  unfolding fewer
  total_fewer n w b =
      let some = waits_some w in
      let h = waits_inside w in
      omega (arith, sum_set l n k (get_or l k 0 - 1) (omega arith) h)

  pub within_fewer : (cap : List ℕ) → Within cap l → Within cap (fewer l k)
  within_fewer cap w m = omega (arith, fewer_falls m, w m)

module _ (cap l : List ℕ) (k : ℕ) where
  pub room_some : has_room cap l k ≡ true → get_or l k 0 < get_or cap k 0
  unfolding has_room
  room_some h = ltb-true (get_or l k 0) (get_or cap k 0) h

  pub some_room : get_or l k 0 < get_or cap k 0 → has_room cap l k ≡ true
  unfolding has_room
  some_room h = lt-ltb (get_or l k 0) (get_or cap k 0) h

  pub room_inside : length cap ≤ length l → has_room cap l k ≡ true → k < length l
  room_inside b h = omega (arith, inside cap k (omega (arith, room_some h)))

  pub within_more : has_room cap l k ≡ true → Within cap l → Within cap (more l k)
  unfolding more
  within_more h w m =
      let room = room_some h in
      ⊎_elim
      (λ (o : length l ≤ k). rw (set_out l k (get_or l k 0 + 1) o) (w m))
      (λ (o : k < length l).
      ⊎_elim
      (λ (s : m ≡ k). rw s (omega (arith, get_or-set_same l k (get_or l k 0 + 1) 0 o)))
      (λ (d : m ≢ k). omega (arith, get_or-set_other l k m (get_or l k 0 + 1) 0 d, w m))
      (same_or_not m k))
      (le_or_lt (length l) k)

-- queue (i, j) stands at a place of its own, as long as j is below 16
pub place_input : (i j : ℕ) → j < 16 → place i j / 16 ≡ i
unfolding place
place_input i j h = omega arith

pub place_output : (i j : ℕ) → j < 16 → place i j % 16 ≡ j
unfolding place
place_output i j h = omega arith

pub place_same : (i j a b : ℕ) → j < 16 → b < 16 → place i j ≡ place a b → (i ≡ a) × (j ≡ b)
unfolding place
place_same i j a b h l e = omega arith

pub place_below : (i j : ℕ) → i < 16 → j < 16 → place i j < 256
unfolding place
place_below i j h l = omega arith

-- every place is that of some queue
pub place_of : (k : ℕ) → k ≡ place (k / 16) (k % 16)
unfolding place
place_of k = omega arith
