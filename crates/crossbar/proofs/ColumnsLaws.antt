-- Outputs that are passed over: the bits of a column are none only where its crosspoints are empty, the crosspoints only lose packets in the output part,
-- and for an output whose crosspoints are empty nothing moves.
-- Assumes nothing.
use Prim.Native.Nat.{ℕ, zero, suc, ◌+◌, ◌*◌, ◌≤◌, ◌<◌}
use native.Mathlib.Nat.{le_refl, le_trans}
use native.Mathlib.Omega.{arith}
use mathlib.Core.Path.{◌≡◌, sym, ap, ◌∙◌}
use mathlib.Core.Logic.{⊎_elim}
use mathlib.Core.Bool.{Bool, true, false, ◌&&◌}
use mathlib.Core.List.{List, [], ◌∷◌, ◌++◌}
use lib.ListN.{length, get_or, set, drop, length-append, length-drop, get_or-append, get_or-eq_default}
use lib.Seq.{drop-drop, get_or-drop, get_or-set_same, get_or-set_other}
use Rattle.std.proofs.Math.Seq.{drop-append_seam}
use lib.Bits.{bit_or, or_add_and, and_le_l, and_le_r}
use lib.Dec.{eqb, ltb}
use borrow.Author.Tests.{eqb-true, eqb-false, le-ltb, ltb-false}
use Rattle.base.proofs.Cases.{true_or_false}
use Rattle.base.proofs.Order.{le_or_lt}
use Rattle.base.proofs.Lowest.{lowest_none}
use Rattle.queues.specs.Queues.{place, waits, has_room, fewer}
use Rattle.queues.specs.Flow.{Flow, still, flowed}
use Rattle.queues.specs.Crossbar.{outmover, outmoved_one, outmoves}
use Rattle.queues.specs.Lent.{Left}
use Rattle.crossbar.specs.Steps.{outmove_step}
use Rattle.crossbar.proofs.CrossbarLaws.{outmove_stays}

neither : (a b : ℕ) → bit_or a b ≡ 0 → (a ≡ 0) × (b ≡ 0)
neither a b e = (omega (arith, or_add_and a b, and_le_r a b), omega (arith, or_add_and a b, and_le_l a b))

-- what bits that are none say, of the bits before and of the first k crosspoints of a row
abbrev pub Said : List ℕ → List ℕ → (ℕ → ℕ) → ℕ → Type 0
Said bits bits' f k = (j : ℕ) → j < 16 → get_or bits' j 0 ≡ 0 → (get_or bits j 0 ≡ 0) × (j < k → f j ≡ 0)

-- one crosspoint more
pub said_more : (bits bits' : List ℕ) (f : ℕ → ℕ) (k : ℕ) → k < length bits' → Said bits bits' f k → Said bits (set bits' k (bit_or (get_or bits' k 0) (f k))) f (k + 1)
said_more bits bits' f k within said j h z =
    ⊎_elim
    (λ (t : eqb j k ≡ true).
    let e : j ≡ k = eqb-true j k t in
    let both = neither (get_or bits' k 0) (f k) (sym (get_or-set_same bits' k (bit_or (get_or bits' k 0) (f k)) 0 within) ∙ rw e at z) in
    (rw e (said k (omega arith) both.0).0, λ l. rw e both.1))
    (λ (t : eqb j k ≡ false).
    let other = eqb-false j k t in
    let before = said j h (sym (get_or-set_other bits' k j (bit_or (get_or bits' k 0) (f k)) 0 other) ∙ z) in
    (before.0, λ l. before.1 (less other l)))
    (true_or_false (eqb j k))
  where
    less : {j k : ℕ} → (j ≡ k → ⊥) → j < k + 1 → j < k
    less {j} {k} n l = omega arith

-- what bits that are none say of the first i rows
abbrev pub SaidOf : List ℕ → List ℕ → ℕ → Type 0
SaidOf crosslen bits i = (m j : ℕ) → m < i → j < 16 → get_or bits j 0 ≡ 0 → get_or crosslen (place m j) 0 ≡ 0

-- a row off the front of the crosspoints that are left
pub row_next : (l rest row next : List ℕ) (n : ℕ) → rest ≡ drop (16 * n) l → rest ≡ row ++ next → length row ≡ 16
    → (16 * n + 16 ≤ length l) × (next ≡ drop (16 * (n + 1)) l) × ((j : ℕ) → j < 16 → get_or row j 0 ≡ get_or l (place n j) 0)
unfolding place
row_next l rest row next n e f long =
    let g : row ++ next ≡ drop (16 * n) l = sym f ∙ e in
    let more : 16 * n + 16 ≡ 16 * (n + 1) = omega arith in (
      omega (arith, ap length g, length-append row next, length-drop (16 * n) l),
      sym (drop-append_seam row next) ∙ ap (λ (k : ℕ). drop k (row ++ next)) long ∙ ap (drop 16) g ∙ drop-drop 16 (16 * n) l
          ∙ ap (λ (k : ℕ). drop k l) more,
      λ j h.
          let here : 16 * n + j ≡ n * 16 + j = omega arith in
          sym (get_or-append row next 0 j (omega arith)) ∙ ap (λ (r : List ℕ). get_or r j 0) g ∙ get_or-drop (16 * n) l j 0
          ∙ ap (λ (k : ℕ). get_or l k 0) here,
    )

-- one row more
pub row_more : (crosslen bits : List ℕ) (i : ℕ) → SaidOf crosslen bits i → (m j : ℕ) → m < i + 1 → j < 16 → (get_or bits j 0 ≡ 0) × (get_or crosslen (place i j) 0 ≡ 0)
    → get_or crosslen (place m j) 0 ≡ 0
row_more crosslen bits i said m j h w row =
    ⊎_elim
    (λ (l : i ≤ m). let e : m ≡ i = omega arith in rw e row.1)
    (λ (l : m < i). said m j l w row.0)
    (le_or_lt i m)

-- every row; past the last there is no crosspoint
pub all_rows : (crosslen bits : List ℕ) (k : ℕ) → length crosslen ≡ 256 → 16 ≤ k → SaidOf crosslen bits k → (i j : ℕ) → j < 16 → get_or bits j 0 ≡ 0 → waits crosslen (place i j) ≡ false
unfolding waits place
all_rows crosslen bits k whole all said i j w z =
    ⊎_elim
    (λ (past : 16 ≤ i). rw (get_or-eq_default crosslen 0 {n = i * 16 + j} (omega arith)))
    (λ (l : i < 16). rw (said i j (omega arith) w z))
    (le_or_lt 16 i)

-- packets only leave the crosspoints
fewer_falls : (l : List ℕ) (k m : ℕ) → get_or (fewer l k) m 0 ≤ get_or l m 0
unfolding fewer
fewer_falls [] k m = omega arith
fewer_falls (x ∷ l) zero zero = omega arith
fewer_falls (x ∷ l) zero (suc m) = le_refl (get_or l m 0)
fewer_falls (x ∷ l) (suc k) zero = le_refl x
fewer_falls (x ∷ l) (suc k) (suc m) = fewer_falls l k m

falls_one : (t : Bool) (b : Flow) (slot cycle i j k : ℕ) → get_or (outmoved_one t b slot cycle i j).from k 0 ≤ get_or b.from k 0
unfolding outmoved_one flowed
falls_one true b slot cycle i j k = fewer_falls b.from (place i j) k
falls_one false b slot cycle i j k = le_refl (get_or b.from k 0)

module _ (turn outcap crosslen outlen : List ℕ) (slot cycle : ℕ) where
  falls : (j k : ℕ) → get_or (outmoves turn outcap crosslen outlen slot cycle j).from k 0 ≤ get_or crosslen k 0
  unfolding outmoves still
  falls zero k = le_refl (get_or crosslen k 0)
  falls (suc j) k =
      let b = outmoves turn outcap crosslen outlen slot cycle j in
      let u = outmover turn b j in
      le_trans (falls_one (has_room outcap b.to j && ltb u (length turn)) b slot cycle (get_or turn u 0) j k) (falls j k)

  -- a crosspoint that was empty stays empty
  pub stays_empty : (j k : ℕ) {now : List ℕ} → now ≡ (outmoves turn outcap crosslen outlen slot cycle j).from → waits crosslen k ≡ false → waits now k ≡ false
  unfolding waits
  stays_empty j k e none =
      let less = falls j k in
      let empty = ltb-false 0 (get_or crosslen k 0) none in
      rw e (le-ltb 0 (get_or (outmoves turn outcap crosslen outlen slot cycle j).from k 0) (omega arith))

pub outmove_none : (turn outcap crosslen outlen : List ℕ) (slot cycle j : ℕ) → ((i : ℕ) → waits crosslen (place i j) ≡ false) → (log : List ℕ) (at : ℕ)
    → Left (outmove_step turn outcap (still crosslen outlen) slot cycle j) crosslen outlen log log at (record { at = at; moved = false })
unfolding outmover still
outmove_none turn outcap crosslen outlen slot cycle j none log at =
    outmove_stays turn outcap crosslen outlen slot cycle j
    (lowest_none (λ u. waits crosslen (place (get_or turn u 0) j)) (length turn) (λ u h. none (get_or turn u 0))) log at
