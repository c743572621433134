-- A slot's arrivals one after the other: what one arrival leaves, and what the first k + 1 of a part leave once the first k have.
-- Assumes nothing.
use Prim.Native.Nat.{ℕ, suc, ◌+◌, ◌*◌, ◌≤◌}
use native.Mathlib.Numerals.{add-one}
use native.Mathlib.Nat.{add-zero}
use native.Mathlib.Omega.{arith}
use mathlib.Core.Path.{◌≡◌, refl, sym, ap, ◌∙◌, subst}
use mathlib.Core.Bool.{Bool, true, false, cond}
use mathlib.Core.List.{List, [], ◌∷◌, ◌++◌}
use lib.ListN.{length, get_or, drop, length-append, length-drop}
use lib.Seq.{drop-drop, get_or-drop}
use Rattle.queues.specs.declared.Queues.{Queues}
use Rattle.queues.specs.Queues.{place, has_room, more, lengths}
use Rattle.queues.specs.Events.{Event, word, log_of, accepted_at, dropped_at, of_kind}
use Rattle.queues.specs.Log.{entered, logged, onward}
use Rattle.queues.specs.Slot.{Done, begun, after, arrival_of, arrival}
use Rattle.queues.proofs.LogLaws.{logged_then, onward_then, length_logged}
use Rattle.slot_laws.proofs.EventsLaws.{of_both}
use Rattle.run.specs.declared.Took.{Took}
use Rattle.run.specs.Taking.{takings, Taken}

accepted_is : (q : Queues) (slot i j : ℕ) → has_room q.incap q.inlen (place i j) ≡ true → arrival q slot i j ≡ record { queues = lengths q (more q.inlen (place i j)) q.outlen q.crosslen; events = accepted_at slot i j ∷ [] }
unfolding arrival arrival_of
accepted_is q slot i j e = rw e

dropped_is : (q : Queues) (slot i j : ℕ) → has_room q.incap q.inlen (place i j) ≡ false → arrival q slot i j ≡ record { queues = q; events = dropped_at slot i j ∷ [] }
unfolding arrival arrival_of
dropped_is q slot i j e = rw e

module _ (q : Queues) (slot i j : ℕ) where
  pub accepted_left : (left log kept : List ℕ) (at w to : ℕ) → has_room q.incap q.inlen (place i j) ≡ true → left ≡ cond (has_room q.incap q.inlen (place i j)) (more q.inlen (place i j)) q.inlen → w ≡ word (accepted_at slot i j) → kept ≡ entered log at w → to ≡ onward (length log) at 1 → Taken (arrival q slot i j) (lengths q left q.outlen q.crosslen) log kept at (record { at = to; dropped = 0 })
  unfolding log_of logged of_kind accepted_at
  accepted_left left log kept at w to r l e k t =
      subst (λ (d : Done). Taken d (lengths q left q.outlen q.crosslen) log kept at (record { at = to; dropped = 0 })) (sym (accepted_is q slot i j r))
      (record {
        of_queues = ap (λ (n : List ℕ). lengths q n q.outlen q.crosslen) (l ∙ ap (λ (b : Bool). cond b (more q.inlen (place i j)) q.inlen) r);
        of_log = k ∙ ap (entered log at) e;
        of_at = t;
        of_dropped = refl;
      })

  pub dropped_left : (log kept : List ℕ) (at w to : ℕ) → has_room q.incap q.inlen (place i j) ≡ false → w ≡ word (dropped_at slot i j) → kept ≡ entered log at w → to ≡ onward (length log) at 1 → Taken (arrival q slot i j) q log kept at (record { at = to; dropped = 1 })
  unfolding log_of logged of_kind dropped_at
  dropped_left log kept at w to r e k t =
      subst (λ (d : Done). Taken d q log kept at (record { at = to; dropped = 1 })) (sym (dropped_is q slot i j r))
      (record { of_queues = refl; of_log = k ∙ ap (entered log at) e; of_at = t; of_dropped = refl })

-- words of one run after another
pub logs_join : (a b : List Event) → log_of (a ++ b) ≡ log_of a ++ log_of b
unfolding log_of
logs_join [] b = refl
logs_join (e ∷ a) b = ap (word e ∷◌) (logs_join a b)

pub length_log : (a : List Event) → length (log_of a) ≡ length a
unfolding log_of
length_log [] = refl
length_log (e ∷ a) = ap suc (length_log a)

-- one thing after another in the log
pub logs_then : (log mid kept : List ℕ) (at to : ℕ) (a b : List Event) → mid ≡ logged log at (log_of a) → to ≡ onward (length log) at (length a) → kept ≡ logged mid to (log_of b) → kept ≡ logged log at (log_of (a ++ b))
logs_then log mid kept at to a b em et ek =
    ek
    ∙ ap (λ (l : List ℕ). logged l to (log_of b)) em
    ∙ ap (λ (p : ℕ). logged (logged log at (log_of a)) p (log_of b)) (et ∙ ap (onward (length log) at) (sym (length_log a)))
    ∙ logged_then log at (log_of a) (log_of b)
    ∙ ap (logged log at) (sym (logs_join a b))

pub places_then : (log mid : List ℕ) (at to then : ℕ) (a b : List Event) → mid ≡ logged log at (log_of a) → to ≡ onward (length log) at (length a) → then ≡ onward (length mid) to (length b) → then ≡ onward (length log) at (length (a ++ b))
places_then log mid at to then a b em et eh =
    eh
    ∙ ap (λ (n : ℕ). onward n to (length b)) (ap length em ∙ length_logged log at (log_of a))
    ∙ ap (λ (p : ℕ). onward (length log) p (length b)) et
    ∙ onward_then (length log) at (length a) (length b)
    ∙ ap (onward (length log) at) (sym (length-append a b))

-- one part after another, as both are left
pub taken_then : (b d : Done) (mid_q q : Queues) (log mid kept : List ℕ) (at : ℕ) (r t : Took) → Taken b mid_q log mid at r → Taken d q mid kept r.at t → Taken (after b d) q log kept at (record { at = t.at; dropped = r.dropped + t.dropped })
unfolding after
taken_then b d mid_q q log mid kept at r t x y =
    record {
      of_queues = y.of_queues;
      of_log = logs_then log mid kept at r.at b.events d.events x.of_log x.of_at y.of_log;
      of_at = places_then log mid at r.at t.at b.events d.events x.of_log x.of_at y.of_at;
      of_dropped = ap (λ (m : ℕ). m + t.dropped) x.of_dropped ∙ ap (of_kind 2 b.events +◌) y.of_dropped ∙ sym (of_both 2 b.events d.events);
    }

-- at most one is dropped
pub one_dropped : (q : Queues) (slot i j : ℕ) → of_kind 2 (arrival q slot i j).events ≤ 1
unfolding arrival
one_dropped q slot i j = go (has_room q.incap q.inlen (place i j))
  where
    go : (b : Bool) → of_kind 2 (arrival_of b q slot i j).events ≤ 1
    go true = unfold arrival_of of_kind accepted_at in omega arith
    go false = unfold arrival_of of_kind dropped_at in omega arith

pub nothing_taken : (q : Queues) (slot : ℕ) (part log : List ℕ) (at : ℕ) → Taken (takings q slot part 0) q log log at (record { at = at; dropped = 0 })
unfolding takings begun log_of logged onward of_kind
nothing_taken q slot part log at = record { of_queues = refl; of_log = refl; of_at = refl; of_dropped = refl }

-- one arrival more
pub taken_more : (q p left : Queues) (slot : ℕ) (part log mid kept : List ℕ) (k at : ℕ) (r t : Took) → Taken (takings q slot part k) p log mid at r → Taken (arrival p slot (get_or part (2 * k) 0) (get_or part (2 * k + 1) 0)) left mid kept r.at t → Taken (takings q slot part (k + 1)) left log kept at (record { at = t.at; dropped = r.dropped + t.dropped })
unfolding takings
taken_more q p left slot part log mid kept k at r t x y =
    let b = takings q slot part k in
    rw add-one
    (taken_then b (arrival b.queues slot (get_or part (2 * k) 0) (get_or part (2 * k + 1) 0)) p left log mid kept at r t x
    (subst (λ (q : Queues). Taken (arrival q slot (get_or part (2 * k) 0) (get_or part (2 * k + 1) 0)) left mid kept r.at t) x.of_queues y))

-- a pair of bytes off the front of what is left of a part
pub pair_next : (part rest pair next : List ℕ) (n : ℕ) → rest ≡ drop (2 * n) part → rest ≡ pair ++ next → length pair ≡ 2 → (2 * n + 2 ≤ length part) × (next ≡ drop (2 * (n + 1)) part) × (get_or pair 0 0 ≡ get_or part (2 * n) 0) × (get_or pair 1 0 ≡ get_or part (2 * n + 1) 0)
pair_next part rest [] next n e f l = absurd (omega arith)
pair_next part rest (a ∷ []) next n e f l = absurd (omega arith)
pair_next part rest (a ∷ b ∷ c ∷ p) next n e f l = absurd (omega arith)
pair_next part rest (a ∷ b ∷ []) next n e f l =
    let g : a ∷ b ∷ next ≡ drop (2 * n) part = sym f ∙ e in
    let more : 2 * n + 2 ≡ 2 * (n + 1) = omega arith in
    let long = ap length g in (
      omega (arith, length-drop (2 * n) part),
      ap (drop 2) g ∙ drop-drop 2 (2 * n) part ∙ ap (λ (k : ℕ). drop k part) more,
      ap (λ (l : List ℕ). get_or l 0 0) g ∙ get_or-drop (2 * n) part 0 0 ∙ ap (λ (k : ℕ). get_or part k 0) (add-zero (2 * n)),
      ap (λ (l : List ℕ). get_or l 1 0) g ∙ get_or-drop (2 * n) part 1 0,
    )
