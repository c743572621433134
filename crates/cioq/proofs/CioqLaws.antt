-- The definition judges what is eligible by the queues at the start of the cycle, the code by the queues as they are now. They agree at
-- every output that no input took yet: a move changes the queues of the output that it takes, and no others. So the visits made in place
-- are those of the definition.
-- Assumes nothing.
use Prim.Native.Nat.{ℕ, zero, suc, ◌+◌, ◌≤◌, ◌<◌}
use native.Mathlib.Numerals.{add-one}
use native.Mathlib.Omega.{arith}
use mathlib.Core.Path.{◌≡◌, refl, sym, ap, ◌∙◌, subst}
use mathlib.Core.Logic.{◌≢◌, ⊎_elim}
use mathlib.Core.Bool.{Bool, true, false, not, ◌&&◌, ◌||◌, and-false}
use mathlib.Core.List.{List, ◌∷◌}
use lib.ListN.{length, get_or, set, replicate, length-set, length-replicate, get_or-replicate}
use lib.Dec.{eqb, ltb}
use lib.Seq.{get_or-set_same, get_or-set_other}
use borrow.Author.Tests.{ltb-true, eqb-false, eq-eqb, ne_eqb}
use Rattle.base.proofs.Cases.{true_or_false, same_or_not}
use Rattle.base.proofs.Lowest.{lowest_cong}
use Rattle.queues.specs.declared.Went.{Went}
use Rattle.queues.specs.Queues.{place, waits, has_room, more, fewer}
use Rattle.queues.specs.Flow.{flowed, still}
use Rattle.queues.specs.Cioq.{Visits, eligible, is_taken, choice, visited, visits, matching}
use Rattle.queues.specs.Lent.{Left}
use Rattle.queues.specs.Events.{crossed_at}
use Rattle.cioq.specs.Visit.{may_take, chosen, Visited, VisitedTo}
use Rattle.queues.proofs.MoveLaws.{left_still}
use Rattle.cioq.proofs.LeftLaws.{left_same, left_flowed}

-- places of different outputs differ
places_differ : (i i' j k : ℕ) → j < 16 → k < 16 → j ≢ k → place i' j ≢ place i k
unfolding place
places_differ i i' j k h l d = λ e. d (omega arith)

neither : (a b : Bool) → (a || b) ≡ false → (a ≡ false) × (b ≡ false)
neither true b h = (h, cc)
neither false b h = (refl, h)

taken_more : (l : List ℕ) (k j : ℕ) → is_taken (k ∷ l) j ≡ (eqb k j || is_taken l j)
unfolding is_taken
taken_more l k j = refl

-- the queues of output j are as they were
pub record Kept (inlen outlen : List ℕ) (b : Visits) (j : ℕ) : Type 0 where
  pub from_kept : (i : ℕ) → get_or b.flow.from (place i j) 0 ≡ get_or inlen (place i j) 0
  pub to_kept : get_or b.flow.to j 0 ≡ get_or outlen j 0

kept_visited : (inlen outlen : List ℕ) (slot cycle i k j : ℕ) (m : Bool) (b : Visits) → (m ≡ true → k < 16) → j < 16
    → (is_taken b.taken j ≡ false → Kept inlen outlen b j)
    → is_taken (visited m b slot cycle i k).taken j ≡ false → Kept inlen outlen (visited m b slot cycle i k) j
unfolding visited flowed more fewer
kept_visited inlen outlen slot cycle i k j true b small h kept free =
    let both = neither (eqb k j) (is_taken b.taken j) (sym (taken_more b.taken k j) ∙ free) in
    let differ : j ≢ k = λ e. eqb-false k j both.0 (sym e) in
    let before = kept both.1 in
    record {
      from_kept = λ i'. get_or-set_other b.flow.from (place i k) (place i' j) _ 0 (places_differ i i' j k h (small refl) differ) ∙ before.from_kept i';
      to_kept = get_or-set_other b.flow.to k j _ 0 differ ∙ before.to_kept;
    }
kept_visited inlen outlen slot cycle i k j false b small h kept free = kept free

-- what the code holds after some visits: the queues, the log and the answer as they are left, and a flag for each output that was taken
pub record Upto (b : Visits) (log : List ℕ) (at : ℕ) (inlen outlen kept : List ℕ) (flags : List Bool) (w : Went) : Type 0 where
  pub left : Left b.flow inlen outlen log kept at w
  pub long : length flags ≡ 16
  pub flagged : (j : ℕ) → j < 16 → get_or flags j false ≡ is_taken b.taken j

flag_more : (taken : List ℕ) (flags : List Bool) (k : ℕ) → k < length flags → (j : ℕ) → get_or flags j false ≡ is_taken taken j
    → get_or (set flags k true) j false ≡ is_taken (k ∷ taken) j
unfolding is_taken
flag_more taken flags k h j e =
    ⊎_elim
    (λ (same : k ≡ j). subst (λ (n : ℕ). get_or (set flags k true) n false ≡ (eqb k n || is_taken taken n)) same
    (get_or-set_same flags k true false h ∙ sym (ap (λ (t : Bool). t || is_taken taken k) (eq-eqb k k refl))))
    (λ (differ : k ≢ j). get_or-set_other flags k j true false (λ e. differ (sym e)) ∙ e ∙ sym (ap (λ (t : Bool). t || is_taken taken j) (ne_eqb k j differ)))
    (same_or_not k j)

-- one visit more
upto_visited : {b : Visits} {log : List ℕ} {at slot cycle i j : ℕ} {inlen outlen kept : List ℕ} {flags : List Bool} {w : Went}
    {inlen' outlen' kept' : List ℕ} {flags' : List Bool} {r : Went} (m : Bool) → (m ≡ true → j < 16) → Upto b log at inlen outlen kept flags w
    → Visited m slot cycle i j inlen outlen flags kept w inlen' outlen' flags' kept' r
    → Upto (visited m b slot cycle i j) log at inlen' outlen' kept' flags' r
unfolding visited
upto_visited {b} {slot = slot} {cycle = cycle} {i = i} {j = j} {flags = flags} true small p v =
    let long = p.long in
    let h = small refl in
    record {
      left = left_flowed p.left (place i j) j (crossed_at slot cycle i j) v.of_from v.of_to v.of_log v.of_at v.of_moved;
      long = ap length v.of_flags ∙ length-set flags j true ∙ p.long;
      flagged = λ k l. ap (λ (fs : List Bool). get_or fs k false) v.of_flags ∙ flag_more b.taken flags j (omega arith) k (p.flagged k l);
    }
upto_visited false small p v =
    record {
      left = left_same p.left v.of_from v.of_to v.of_log v.of_at v.of_moved;
      long = ap length v.of_flags ∙ p.long;
      flagged = λ k l. ap (λ (fs : List Bool). get_or fs k false) v.of_flags ∙ p.flagged k l;
    }

visited_lengths : (inlen outlen : List ℕ) (slot cycle i k : ℕ) (m : Bool) (b : Visits)
    → (length b.flow.from ≡ length inlen) × (length b.flow.to ≡ length outlen)
    → (length (visited m b slot cycle i k).flow.from ≡ length inlen) × (length (visited m b slot cycle i k).flow.to ≡ length outlen)
unfolding visited flowed more fewer
visited_lengths inlen outlen slot cycle i k true b e = (length-set b.flow.from (place i k) _ ∙ e.0, length-set b.flow.to k _ ∙ e.1)
visited_lengths inlen outlen slot cycle i k false b e = e

module _ (ports : ℕ) (turn outcap inlen outlen : List ℕ) (slot cycle : ℕ) where
  -- the first u visits
  abbrev pub first : ℕ → Visits
  first u = visits ports turn outcap inlen outlen slot cycle u

  -- both kinds have as many queues as before
  pub lengths_kept : (u : ℕ) → (length (first u).flow.from ≡ length inlen) × (length (first u).flow.to ≡ length outlen)
  unfolding visits still
  lengths_kept zero = (refl, refl)
  lengths_kept (suc u) =
      let i = get_or turn u 0 in
      let k = choice ports outcap inlen outlen (first u).taken i in
      visited_lengths inlen outlen slot cycle i k (ltb k ports) (first u) (lengths_kept u)

  -- before the first visit
  pub upto_none : (log : List ℕ) (at : ℕ) → Upto (first 0) log at inlen outlen log (replicate 16 false) (record { at = at; moved = false })
  unfolding visits is_taken
  upto_none log at =
      record { left = left_still inlen outlen log at; long = length-replicate 16 false; flagged = λ j h. get_or-replicate 16 j false false h }

  -- after the last
  pub upto_all : {log : List ℕ} {at : ℕ} {inlen₁ outlen₁ kept₁ : List ℕ} {flags₁ : List Bool} {w : Went} (u : ℕ) → u ≡ length turn
      → Upto (first u) log at inlen₁ outlen₁ kept₁ flags₁ w → Left (matching ports turn outcap inlen outlen slot cycle) inlen₁ outlen₁ log kept₁ at w
  unfolding matching
  upto_all u e p = rw e at p.left

  module _ (few : ports ≤ 16) where
    -- an output that no input took has its queues as they were
    kept : (u j : ℕ) → j < 16 → is_taken (first u).taken j ≡ false → Kept inlen outlen (first u) j
    unfolding visits still
    kept zero j h free = record { from_kept = λ i. refl; to_kept = refl }
    kept (suc u) j h free =
        let i = get_or turn u 0 in
        let k = choice ports outcap inlen outlen (first u).taken i in
        kept_visited inlen outlen slot cycle i k j (ltb k ports) (first u) (λ t. let l = ltb-true k ports t in omega arith) h (kept u j h) free

    module _ (u : ℕ) (flags : List Bool) (flagged : (j : ℕ) → j < 16 → get_or flags j false ≡ is_taken (first u).taken j) where
      same_test : (i j : ℕ) → j < 16
          → (eligible outcap inlen outlen i j && not (is_taken (first u).taken j)) ≡ may_take outcap (first u).flow.from (first u).flow.to flags i j
      unfolding may_take eligible waits has_room
      same_test i j h =
          ⊎_elim
          (λ (t : is_taken (first u).taken j ≡ true). simp (flagged j h, t, and-false))
          (λ (t : is_taken (first u).taken j ≡ false). let k = kept u j h t in rw (flagged j h, k.from_kept i, k.to_kept))
          (true_or_false (is_taken (first u).taken j))

      -- the choice by the queues as they are now is that of the definition
      same_choice : (i : ℕ) → choice ports outcap inlen outlen (first u).taken i ≡ chosen ports outcap (first u).flow.from (first u).flow.to flags i
      unfolding choice chosen
      same_choice i = lowest_cong _ _ ports (λ j h. same_test i j (omega arith))

    visit_as : (u i j : ℕ) → i ≡ get_or turn u 0 → j ≡ choice ports outcap inlen outlen (first u).taken i
        → visited (ltb j ports) (first u) slot cycle i j ≡ first (u + 1)
    unfolding visits
    visit_as u i j d e = rw (e, d, add-one)

    -- one visit more, made in place, is one visit more of the definition
    pub upto_more : {log : List ℕ} {at : ℕ} {inlen₁ outlen₁ kept₁ : List ℕ} {flags₁ : List Bool} {w : Went}
        {inlen₂ outlen₂ kept₂ : List ℕ} {flags₂ : List Bool} {r : Went} (u i : ℕ) → i ≡ get_or turn u 0
        → Upto (first u) log at inlen₁ outlen₁ kept₁ flags₁ w
        → VisitedTo ports (chosen ports outcap inlen₁ outlen₁ flags₁ i) slot cycle i inlen₁ outlen₁ flags₁ kept₁ w inlen₂ outlen₂ flags₂ kept₂ r
        → Upto (first (u + 1)) log at inlen₂ outlen₂ kept₂ flags₂ r
    upto_more {log} {at} {inlen₁} {outlen₁} {flags₁ = flags₁} {inlen₂ = inlen₂} {outlen₂ = outlen₂} {kept₂ = kept₂} {flags₂ = flags₂} {r = r} u i d p v =
        let j = chosen ports outcap inlen₁ outlen₁ flags₁ i in
        let same : j ≡ choice ports outcap inlen outlen (first u).taken i =
        ap (λ (x : List ℕ). chosen ports outcap x outlen₁ flags₁ i) p.left.of_from
        ∙ ap (λ (x : List ℕ). chosen ports outcap (first u).flow.from x flags₁ i) p.left.of_to
        ∙ sym (same_choice u flags₁ p.flagged i) in
        subst (λ (b : Visits). Upto b log at inlen₂ outlen₂ kept₂ flags₂ r) (visit_as u i j d same)
        (upto_visited (ltb j ports) (λ t. let l = ltb-true j ports t in omega arith) p v)
