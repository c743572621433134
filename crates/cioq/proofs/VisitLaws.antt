-- One visit: what an input may take, test by test; a chosen output has room; and what a visit leaves by the number that was chosen.
-- Assumes nothing.
use Prim.Native.Nat.{ℕ, ◌+◌, ◌*◌, ◌≤◌, ◌<◌}
use native.Mathlib.Omega.{arith}
use mathlib.Core.Path.{◌≡◌, refl, sym, ap, ◌∙◌, subst}
use mathlib.Core.Bool.{Bool, true, false, not, ◌&&◌, and-false}
use mathlib.Core.List.{List}
use lib.ListN.{get_or, set}
use lib.Dec.{ltb}
use borrow.Author.Tests.{lt-ltb, le-ltb}
use Rattle.base.proofs.Below.{both_true}
use Rattle.base.proofs.Lowest.{lowest_passes}
use Rattle.queues.specs.declared.Went.{Went}
use Rattle.queues.specs.Queues.{place, waits, has_room, fewer}
use Rattle.queues.specs.Events.{Event, word, log_of, happened, crossed_at}
use Rattle.queues.specs.Log.{entered, logged}
use Rattle.queues.specs.Flow.{still, flowed}
use Rattle.queues.specs.Lent.{Left}
use Rattle.queues.specs.Cioq.{eligible}
use Rattle.cioq.specs.Visit.{may_take, chosen, Visited, VisitedTo}

module _ (outcap inlen outlen : List ℕ) (flags : List Bool) (i j : ℕ) where
  pub may_by_flag : waits inlen (place i j) ≡ true → has_room outcap outlen j ≡ true → may_take outcap inlen outlen flags i j ≡ not (get_or flags j false)
  unfolding may_take eligible
  may_by_flag w h = rw (w, h)

  pub may_not_full : has_room outcap outlen j ≡ false → may_take outcap inlen outlen flags i j ≡ false
  unfolding may_take eligible
  may_not_full h = rw (h, and-false)

  pub may_not_empty : waits inlen (place i j) ≡ false → may_take outcap inlen outlen flags i j ≡ false
  unfolding may_take eligible
  may_not_empty w = rw w

  room_of : may_take outcap inlen outlen flags i j ≡ true → has_room outcap outlen j ≡ true
  unfolding may_take eligible
  room_of t =
      (both_true (waits inlen (place i j)) (has_room outcap outlen j) (both_true (eligible outcap inlen outlen i j) (not (get_or flags j false)) t).0).1

pub chosen_room : (ports : ℕ) (outcap inlen outlen : List ℕ) (flags : List Bool) (i : ℕ) → chosen ports outcap inlen outlen flags i < ports
    → has_room outcap outlen (chosen ports outcap inlen outlen flags i) ≡ true
unfolding chosen
chosen_room ports outcap inlen outlen flags i h =
    room_of outcap inlen outlen flags i _ (lowest_passes (may_take outcap inlen outlen flags i) ports h)

-- a packet that moved from its queue, with an event
pub shifted : {slot cycle i j k : ℕ} {e : Event} {inlen outlen : List ℕ} {flags : List Bool} {log : List ℕ} {w : Went} {inlen' outlen' log' : List ℕ} {r : Went}
    → k ≡ place i j → e ≡ crossed_at slot cycle i j → Left (flowed (still inlen outlen) k j e) inlen' outlen' log log' w.at r
    → Visited true slot cycle i j inlen outlen flags log w inlen' outlen' (set flags j true) log' r
unfolding still flowed log_of logged happened
shifted {slot} {cycle} {i} {j} {inlen = inlen} {log = log} {w = w} p q l =
    record {
      of_from = l.of_from ∙ ap (fewer inlen) p;
      of_to = l.of_to;
      of_flags = refl;
      of_log = l.of_log ∙ ap (λ (e : Event). entered log w.at (word e)) q;
      of_at = l.of_at;
      of_moved = l.of_moved;
    }

module _ {slot cycle i : ℕ} {inlen outlen : List ℕ} {flags : List Bool} {log : List ℕ} {w : Went} where
  -- where none was chosen all stays
  pub stays : (n k : ℕ) → n ≤ k → VisitedTo n k slot cycle i inlen outlen flags log w inlen outlen flags log w
  stays n k h =
      subst (λ (m : Bool). Visited m slot cycle i k inlen outlen flags log w inlen outlen flags log w) (sym (le-ltb k n h))
      record { of_from = refl; of_to = refl; of_flags = refl; of_log = refl; of_at = refl; of_moved = refl }

  -- below N the packet moves
  pub moves : {inlen' outlen' : List ℕ} {flags' : List Bool} {log' : List ℕ} {r : Went} (n j k : ℕ) → j ≡ k → j < n
      → Visited true slot cycle i j inlen outlen flags log w inlen' outlen' flags' log' r
      → VisitedTo n k slot cycle i inlen outlen flags log w inlen' outlen' flags' log' r
  moves {inlen'} {outlen'} {flags'} {log'} {r} n j k e h v =
      subst (λ (l : ℕ). VisitedTo n l slot cycle i inlen outlen flags log w inlen' outlen' flags' log' r) e
      (subst (λ (m : Bool). Visited m slot cycle i j inlen outlen flags log w inlen' outlen' flags' log' r) (sym (lt-ltb j n h)) v)

-- an input's own queues say the same, as the queues of the only input
pub may_in_row : (outcap inlen row outlen : List ℕ) (flags : List Bool) (i j : ℕ) → get_or row j 0 ≡ get_or inlen (place i j) 0 → may_take outcap row outlen flags 0 j ≡ may_take outcap inlen outlen flags i j
unfolding may_take eligible waits place
may_in_row outcap inlen row outlen flags i j e =
    let first : 0 * 16 + j ≡ j = omega arith in
    ap (λ (n : ℕ). (ltb 0 n && has_room outcap outlen j) && not (get_or flags j false)) (ap (λ (k : ℕ). get_or row k 0) first ∙ e)
