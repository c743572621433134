-- Greedy matching as a relation: inputs are visited in turn, and each takes an output that is eligible at the start and not taken yet, or
-- goes without where there is none. Everything said of a cycle of the CIOQ switch is an induction over the visits. The one thing to see is
-- that a queue to an output that is not taken is as at the start, for only queues to taken outputs have changed: so what was eligible at
-- the start still waits and has room, and the movement is legal.
-- Assumes nothing.
use Prim.Native.Nat.{ℕ, zero, suc, ◌+◌, ◌-◌, ◌≤◌, ◌<◌}
use native.Mathlib.Nat.{not-suc-le-zero}
use native.Mathlib.Omega.{arith}
use mathlib.Core.Path.{◌≡◌, refl, sym, ap, ◌∙◌, subst}
use mathlib.Core.Logic.{⊎_elim, ◌≢◌}
use mathlib.Core.Bool.{Bool, true, false, ◌&&◌, ◌||◌, cond}
use mathlib.Core.List.{List, [], ◌∷◌, map}
use lib.ListN.{length, get_or}
use lib.Dec.{eqb}
use borrow.Author.Tests.{eqb-false, eq-eqb, ne_eqb}
use Rattle.base.proofs.Below.{both_true, below_suc}
use Rattle.base.proofs.Cases.{not_both, same_or_not}
use Rattle.queues.specs.Queues.{place, waits, has_room, more, fewer}
use Rattle.queues.specs.Events.{crossed_at}
use Rattle.queues.specs.Flow.{Flow, still, flowed}
use Rattle.queues.specs.Cioq.{eligible, is_taken}
use Rattle.slot_laws.proofs.QueueLengths.{waits_some, some_waits, room_some, some_room, room_inside, place_same, more_here, more_other, fewer_here, fewer_other}
use Rattle.slot_laws.proofs.EventsLaws.{more_events}
use Rattle.slot_laws.proofs.Flows.{Legal, none, one, to_length}

-- the inputs and the outputs of a list of pairs
abbrev pub inputs_of : List (ℕ × ℕ) → List ℕ
inputs_of m = map (λ p. p.0) m

abbrev pub outputs_of : List (ℕ × ℕ) → List ℕ
outputs_of m = map (λ p. p.1) m

-- how often k stands in a list, and (i, j) in a list of pairs
unfoldable pub occurs : List ℕ → ℕ → ℕ
occurs [] k = 0
occurs (a ∷ l) k = cond (eqb a k) 1 0 + occurs l k

unfoldable pub times : List (ℕ × ℕ) → ℕ → ℕ → ℕ
times [] i j = 0
times (p ∷ m) i j = cond (eqb p.0 i && eqb p.1 j) 1 0 + times m i j

-- every pair is as P says
pub data Each (P : ℕ → ℕ → Type 0) : List (ℕ × ℕ) → Type 0 where
  nothing : Each P []
  also : {m : List (ℕ × ℕ)} {i j : ℕ} → P i j → Each P m → Each P ((i, j) ∷ m)

-- the first u visits take the pairs of m, the last one first, and end with the queues and events of b
pub data Matched (ports : ℕ) (turn outcap inlen outlen : List ℕ) (slot cycle : ℕ) : ℕ → List (ℕ × ℕ) → Flow → Type 0 where
  unvisited : Matched ports turn outcap inlen outlen slot cycle zero [] (still inlen outlen)
  takes : {u : ℕ} {m : List (ℕ × ℕ)} {b : Flow} (j : ℕ) → Matched ports turn outcap inlen outlen slot cycle u m b → j < ports
      → eligible outcap inlen outlen (get_or turn u 0) j ≡ true → is_taken (outputs_of m) j ≡ false
      → Matched ports turn outcap inlen outlen slot cycle (suc u) ((get_or turn u 0, j) ∷ m)
      (flowed b (place (get_or turn u 0) j) j (crossed_at slot cycle (get_or turn u 0) j))
  passes : {u : ℕ} {m : List (ℕ × ℕ)} {b : Flow} → Matched ports turn outcap inlen outlen slot cycle u m b
      → ((j : ℕ) → j < ports → eligible outcap inlen outlen (get_or turn u 0) j ≡ true → is_taken (outputs_of m) j ≡ true)
      → Matched ports turn outcap inlen outlen slot cycle (suc u) m b

-- an output is not among those taken: it is none of them
pub not_taken : (a : ℕ) (l : List ℕ) (k : ℕ) → is_taken (a ∷ l) k ≡ false → (a ≢ k) × (is_taken l k ≡ false)
unfolding is_taken
not_taken a l k h = go (eqb a k) refl h
  where
    go : (t : Bool) → eqb a k ≡ t → (t || is_taken l k) ≡ false → (a ≢ k) × (is_taken l k ≡ false)
    go true e h = absurd (not_both refl h)
    go false e h = (eqb-false a k e, h)

pub taken_occurs : (l : List ℕ) (k : ℕ) → is_taken l k ≡ true → 1 ≤ occurs l k
unfolding is_taken occurs
taken_occurs [] k h = absurd (not_both h refl)
taken_occurs (a ∷ l) k h = go (eqb a k) (taken_occurs l k) h
  where
    go : (t : Bool) → (is_taken l k ≡ true → 1 ≤ occurs l k) → (t || is_taken l k) ≡ true → 1 ≤ cond t 1 0 + occurs l k
    go true rest h = omega arith
    go false rest h = let r = rest h in omega arith

-- an output that is taken is the output of some pair
pub taken_pair : {P : ℕ → ℕ → Type 0} {m : List (ℕ × ℕ)} → Each P m → (k : ℕ) → is_taken (outputs_of m) k ≡ true → (i : ℕ) × P i k
unfolding is_taken
taken_pair nothing k h = absurd (not_both h refl)
taken_pair {P} (also {m = m} {i = i} {j = j} p rest) k h =
    ⊎_elim
    (λ (q : j ≡ k). (i, subst (P i) q p))
    (λ (d : j ≢ k). taken_pair rest k (rw (ne_eqb j k d) at h))
    (same_or_not j k)

pub free_occurs : (l : List ℕ) (k : ℕ) → is_taken l k ≡ false → occurs l k ≡ 0
unfolding occurs
free_occurs [] k h = refl
free_occurs (a ∷ l) k h =
    let p = not_taken a l k h in
    let rest = free_occurs l k p.1 in
    rw (ne_eqb a k p.0) (omega arith)

pub occurs_here : (a : ℕ) (l : List ℕ) (k : ℕ) → a ≡ k → occurs (a ∷ l) k ≡ 1 + occurs l k
unfolding occurs
occurs_here a l k e = rw (eq-eqb a k e)

pub occurs_other : (a : ℕ) (l : List ℕ) (k : ℕ) → a ≢ k → occurs (a ∷ l) k ≡ occurs l k
unfolding occurs
occurs_other a l k d = rw (ne_eqb a k d) (omega arith)

pub times_here : (i j : ℕ) (m : List (ℕ × ℕ)) (a b : ℕ) → i ≡ a → j ≡ b → times ((i, j) ∷ m) a b ≡ 1 + times m a b
unfolding times
times_here i j m a b e f = rw (eq-eqb i a e, eq-eqb j b f)

pub times_other : (i j : ℕ) (m : List (ℕ × ℕ)) (a b : ℕ) → ((i ≡ a) × (j ≡ b) → ⊥) → times ((i, j) ∷ m) a b ≡ times m a b
unfolding times
times_other i j m a b d =
    ⊎_elim
    (λ (e : i ≡ a). rw (eq-eqb i a e, ne_eqb j b (λ f. d (e, f))) (omega arith))
    (λ (e : i ≢ a). rw (ne_eqb i a e) (omega arith))
    (same_or_not i a)

-- one packet leaves (a, b), and one comes to b: seen from every queue
pair_left : (l : List ℕ) (a b : ℕ) (m : List (ℕ × ℕ)) (i j x : ℕ) → b < 16 → j < 16 → 1 ≤ get_or l (place a b) 0
    → get_or l (place i j) 0 + times m i j ≡ x → get_or (fewer l (place a b)) (place i j) 0 + times ((a, b) ∷ m) i j ≡ x
pair_left l a b m i j x bl jl some before =
    ⊎_elim
    (λ (q : place i j ≡ place a b).
    let p = place_same i j a b jl bl q in
    let same = ap (λ (k : ℕ). get_or l k 0) q in
    let less : get_or (fewer l (place a b)) (place i j) 0 ≡ get_or l (place a b) 0 - 1 = rw q (fewer_here l (place a b)) in
    omega (arith, times_here a b m i j (sym p.0) (sym p.1)))
    (λ (d : place i j ≢ place a b).
    omega (arith, fewer_other l (place a b) (place i j) d, times_other a b m i j (λ p. d (rw (p.0, p.1)))))
    (same_or_not (place i j) (place a b))

pair_came : (l : List ℕ) (b : ℕ) (o : List ℕ) (j x : ℕ) → b < length l → get_or l j 0 ≡ x + occurs o j → get_or (more l b) j 0 ≡ x + occurs (b ∷ o) j
pair_came l b o j x inside before =
    ⊎_elim
    (λ (q : j ≡ b).
    let same = ap (λ (k : ℕ). get_or l k 0) q in
    let gain : get_or (more l b) j 0 ≡ get_or l b 0 + 1 = rw q (more_here l b inside) in
    omega (arith, occurs_here b o j (sym q)))
    (λ (d : j ≢ b). omega (arith, more_other l b j d, occurs_other b o j (λ q. d (sym q))))
    (same_or_not j b)

-- a pair is eligible: its queue waits at the start, and its output has room
pub eligible_some : (outcap inlen outlen : List ℕ) (i j : ℕ) → eligible outcap inlen outlen i j ≡ true
    → (1 ≤ get_or inlen (place i j) 0) × (get_or outlen j 0 < get_or outcap j 0)
unfolding eligible
eligible_some outcap inlen outlen i j h =
    let p = both_true (waits inlen (place i j)) (has_room outcap outlen j) h in
    (waits_some inlen (place i j) p.0, room_some outcap outlen j p.1)

module _ {ports : ℕ} {turn outcap inlen outlen : List ℕ} {slot cycle : ℕ} (few : ports ≤ 16) where
  pub untouched : {u : ℕ} {m : List (ℕ × ℕ)} {b : Flow} → Matched ports turn outcap inlen outlen slot cycle u m b
      → (i j : ℕ) → j < 16 → is_taken (outputs_of m) j ≡ false
      → (get_or b.from (place i j) 0 ≡ get_or inlen (place i j) 0) × (get_or b.to j 0 ≡ get_or outlen j 0)
  unfolding still flowed
  untouched unvisited i j l t = (refl, refl)
  untouched (takes {u = u} {m = m} {b = b} a s below e free) i j l t =
      let p = not_taken a (outputs_of m) j t in
      let rest = untouched s i j l p.1 in
      let apart : place i j ≢ place (get_or turn u 0) a = λ q. p.0 (sym (place_same i j (get_or turn u 0) a l (omega arith) q).1) in (
        fewer_other b.from (place (get_or turn u 0) a) (place i j) apart ∙ rest.0,
        more_other b.to a j (λ q. p.0 (sym q)) ∙ rest.1,
      )
  untouched (passes s none_left) i j l t = untouched s i j l t

  pub matched_legal : {u : ℕ} {m : List (ℕ × ℕ)} {b : Flow} → Matched ports turn outcap inlen outlen slot cycle u m b
      → Legal outcap 3 (still inlen outlen) b
  unfolding crossed_at
  matched_legal unvisited = none
  matched_legal (takes {u = u} {m = m} {b = b} j s below e free) =
      let i = get_or turn u 0 in
      let start = eligible_some outcap inlen outlen i j e in
      let now = untouched s i j (omega arith) free in
      one (place i j) j (crossed_at slot cycle i j) (matched_legal s) (some_waits b.from (place i j) (omega arith)) (some_room outcap b.to j (omega arith)) refl
  matched_legal (passes s none_left) = matched_legal s

  -- the queues at the end, by the pairs: a packet left (i, j) as often as (i, j) is a pair, and came to j as often as j is an output
  pub pairs_left : {u : ℕ} {m : List (ℕ × ℕ)} {b : Flow} → Matched ports turn outcap inlen outlen slot cycle u m b
      → (i j : ℕ) → j < 16 → get_or b.from (place i j) 0 + times m i j ≡ get_or inlen (place i j) 0
  unfolding still flowed times
  pairs_left unvisited i j l = omega arith
  pairs_left (takes {u = u} {m = m} {b = b} a s below e free) i j l =
      let start = eligible_some outcap inlen outlen (get_or turn u 0) a e in
      let now = untouched s (get_or turn u 0) a (omega arith) free in
      pair_left b.from (get_or turn u 0) a m i j (get_or inlen (place i j) 0) (omega arith) l (omega arith) (pairs_left s i j l)
  pairs_left (passes s none_left) i j l = pairs_left s i j l

  pub pairs_came : {u : ℕ} {m : List (ℕ × ℕ)} {b : Flow} → Matched ports turn outcap inlen outlen slot cycle u m b
      → length outcap ≤ length outlen → (j : ℕ) → get_or b.to j 0 ≡ get_or outlen j 0 + occurs (outputs_of m) j
  unfolding still flowed occurs
  pairs_came unvisited long j = omega arith
  pairs_came (takes {u = u} {m = m} {b = b} a s below e free) long j =
      let start = eligible_some outcap inlen outlen (get_or turn u 0) a e in
      let now = untouched s (get_or turn u 0) a (omega arith) free in
      let same : length b.to ≡ length outlen = to_length (matched_legal s) in
      pair_came b.to a (outputs_of m) j (get_or outlen j 0)
      (room_inside outcap b.to a (omega arith) (some_room outcap b.to a (omega arith))) (pairs_came s long j)
  pairs_came (passes s none_left) long j = pairs_came s long j

module _ {ports : ℕ} {turn outcap inlen outlen : List ℕ} {slot cycle : ℕ} where
  -- one event for each pair
  pub pairs_events : {u : ℕ} {m : List (ℕ × ℕ)} {b : Flow} → Matched ports turn outcap inlen outlen slot cycle u m b → length b.events ≡ length m
  unfolding still flowed
  pairs_events unvisited = refl
  pairs_events (takes {u = u} {m = m} {b = b} j s below e free) =
      let rest = pairs_events s in omega (arith, more_events b.events (crossed_at slot cycle (get_or turn u 0) j))
  pairs_events (passes s none_left) = pairs_events s

  -- every pair is eligible at the start, its input is visited, and its output is below N
  pub pairs_eligible : {u : ℕ} {m : List (ℕ × ℕ)} {b : Flow} → Matched ports turn outcap inlen outlen slot cycle u m b → (P : ℕ → Type 0)
      → ((w : ℕ) → w < u → P (get_or turn w 0)) → Each (λ i j. P i × (j < ports) × (eligible outcap inlen outlen i j ≡ true)) m
  pairs_eligible unvisited P h = nothing
  pairs_eligible (takes {u = u} j s below e free) P h = also (h u (omega arith), below, e) (pairs_eligible s P (λ w l. h w (omega arith)))
  pairs_eligible (passes s none_left) P h = pairs_eligible s P (λ w l. h w (omega arith))

  -- no output is taken twice
  pub output_once : {u : ℕ} {m : List (ℕ × ℕ)} {b : Flow} → Matched ports turn outcap inlen outlen slot cycle u m b → (j : ℕ) → occurs (outputs_of m) j ≤ 1
  unfolding occurs
  output_once unvisited j = omega arith
  output_once (takes {m = m} a s below e free) j =
      ⊎_elim
      (λ (q : a ≡ j). omega (arith, occurs_here a (outputs_of m) j q, ap (occurs (outputs_of m)) q, free_occurs (outputs_of m) a free))
      (λ (d : a ≢ j). omega (arith, occurs_other a (outputs_of m) j d, output_once s j))
      (same_or_not a j)
  output_once (passes s none_left) j = output_once s j

  -- an input that is not visited takes nothing
  pub input_never : {u : ℕ} {m : List (ℕ × ℕ)} {b : Flow} → Matched ports turn outcap inlen outlen slot cycle u m b → (i : ℕ)
      → ((w : ℕ) → w < u → get_or turn w 0 ≢ i) → occurs (inputs_of m) i ≡ 0
  unfolding occurs
  input_never unvisited i h = refl
  input_never (takes {u = u} {m = m} j s below e free) i h =
      occurs_other (get_or turn u 0) (inputs_of m) i (h u (omega arith)) ∙ input_never s i (λ w l. h w (omega arith))
  input_never (passes s none_left) i h = input_never s i (λ w l. h w (omega arith))

  -- no input takes twice, where none is visited twice
  pub input_once : {u : ℕ} {m : List (ℕ × ℕ)} {b : Flow} → Matched ports turn outcap inlen outlen slot cycle u m b
      → ((v w : ℕ) → v < w → w < u → get_or turn v 0 ≢ get_or turn w 0) → (i : ℕ) → occurs (inputs_of m) i ≤ 1
  unfolding occurs
  input_once unvisited apart i = omega arith
  input_once (takes {u = u} {m = m} j s below e free) apart i =
      ⊎_elim
      (λ (q : get_or turn u 0 ≡ i).
      omega (arith, occurs_here (get_or turn u 0) (inputs_of m) i q, input_never s i (λ w l d. apart w u l (omega arith) (d ∙ sym q))))
      (λ (d : get_or turn u 0 ≢ i).
      omega (arith, occurs_other (get_or turn u 0) (inputs_of m) i d, input_once s (λ v w l h. apart v w l (omega arith)) i))
      (same_or_not (get_or turn u 0) i)
  input_once (passes s none_left) apart i = input_once s (λ v w l h. apart v w l (omega arith)) i

  -- of each eligible pair whose input is visited, the input or the output is taken
  pub maximal : {u : ℕ} {m : List (ℕ × ℕ)} {b : Flow} → Matched ports turn outcap inlen outlen slot cycle u m b
      → (w j : ℕ) → w < u → j < ports → eligible outcap inlen outlen (get_or turn w 0) j ≡ true → 1 ≤ occurs (inputs_of m) (get_or turn w 0) + occurs (outputs_of m) j
  unfolding occurs
  maximal unvisited w j l below ok = absurd (not-suc-le-zero l)
  maximal (takes {u = u} {m = m} a s below e free) w j l jl ok =
      below_suc u w l
      (λ l. let rest = maximal s w j l jl ok in omega arith)
      (λ q. omega (arith, occurs_here (get_or turn u 0) (inputs_of m) (get_or turn w 0) (ap (λ (x : ℕ). get_or turn x 0) (sym q))))
  maximal (passes {u = u} {m = m} s none_left) w j l jl ok =
      below_suc u w l
      (λ l. maximal s w j l jl ok)
      (λ q. omega (arith, taken_occurs (outputs_of m) j (none_left j jl (ap (λ (x : ℕ). eligible outcap inlen outlen (get_or turn x 0) j) (sym q) ∙ ok))))
