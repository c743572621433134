-- What a cycle brings forward. Input part: where an input that is visited has a packet whose crosspoint has room, some crosspoint between
-- used ports holds a packet afterwards; for either the first move has filled one, or nothing has moved and no input could. Output part: an
-- output with room, for which a visited input's crosspoint holds a packet, holds one afterwards; for until it comes its queue and its
-- crosspoints are as at the start. Greedy matching: where a visited pair is eligible some output takes a packet.
-- Assumes nothing.
use Prim.Native.Nat.{ℕ, zero, suc, ◌+◌, ◌/◌, ◌%◌, ◌≤◌, ◌<◌}
use native.Mathlib.Nat.{not-suc-le-zero}
use native.Mathlib.Omega.{arith}
use mathlib.Core.Path.{◌≡◌, refl, sym, ap, ◌∙◌, subst}
use mathlib.Core.Logic.{◌⊎◌, inl, inr, ⊎_elim, ◌≢◌}
use mathlib.Core.Bool.{Bool, true, false, ◌&&◌}
use mathlib.Core.List.{List}
use lib.ListN.{length, get_or}
use lib.Dec.{ltb}
use borrow.Author.Tests.{ltb-true, ltb-false, lt-ltb}
use Rattle.base.proofs.Below.{below_suc}
use Rattle.base.proofs.Cases.{not_both}
use Rattle.base.proofs.Lowest.{none_passes, lowest_first}
use Rattle.queues.specs.Queues.{place, waits, has_room}
use Rattle.queues.specs.Flow.{Flow, still, flowed}
use Rattle.queues.specs.Cioq.{eligible, matching}
use Rattle.queues.specs.Crossbar.{crossing, crossed_one, crossings, input_part, outmover, outmoved_one, outmoves, output_part}
use Rattle.slot_laws.proofs.QueueLengths.{waits_some, some_waits, some_room, room_inside, more_here, more_other, fewer_other, more_grows, place_input, place_same}
use Rattle.slot_laws.proofs.Flows.{to_length}
use Rattle.slot_laws.proofs.Matchings.{inputs_of, outputs_of, occurs, occurs_here, Each, nothing, also, pairs_eligible, pairs_came, maximal}
use Rattle.slot_laws.proofs.CioqLaws.{matching_matched}
use Rattle.slot_laws.proofs.CrossbarLaws.{crossing_passes, outmoves_legal}

-- the queue between some used ports holds a packet
abbrev pub Filled : ℕ → List ℕ → Type 0
Filled ports l = (i : ℕ) × (j : ℕ) × (i < ports) × (j < ports) × (1 ≤ get_or l (place i j) 0)

-- only queues between used ports hold packets
abbrev pub Used : ℕ → List ℕ → Type 0
Used ports l = (k : ℕ) → 1 ≤ get_or l k 0 → (k / 16 < ports) × (k % 16 < ports)

-- a move from i to j is possible
abbrev crosses : List ℕ → List ℕ → List ℕ → ℕ → ℕ → Bool
crosses crosscap inlen crosslen i j = waits inlen (place i j) && has_room crosscap crosslen (place i j)

module _ (ports : ℕ) (crosscap inlen crosslen : List ℕ) (slot cycle : ℕ) (few : ports ≤ 16) (long : length crosscap ≤ length crosslen) (used : Used ports inlen) where
  -- the first move fills a crosspoint; without one no move was possible
  first_fills : (t : Bool) (b : Flow) (i : ℕ) → b ≡ still inlen crosslen → ltb (crossing ports crosscap b i) ports ≡ t
      → Filled ports (crossed_one t b slot cycle i (crossing ports crosscap b i)).to
      ⊎ ((crossed_one t b slot cycle i (crossing ports crosscap b i) ≡ still inlen crosslen) × ((j : ℕ) → j < ports → crosses crosscap inlen crosslen i j ≡ false))
  unfolding crossed_one flowed still crossing
  first_fills true b i e l =
      let j = crossing ports crosscap b i in
      let small : j < ports = ltb-true j ports l in
      let p = crossing_passes ports crosscap b i small in
      let some : 1 ≤ get_or inlen (place i j) 0 = omega (arith, waits_some b.from (place i j) p.0, ap (λ (x : Flow). get_or x.from (place i j) 0) e) in
      let at = used (place i j) some in
      let same : length b.to ≡ length crosslen = ap (λ (x : Flow). length x.to) e in
      let inside = room_inside crosscap b.to (place i j) (omega arith) p.1 in
      inl (i, j, omega (arith, place_input i j (omega arith)), small, omega (arith, more_here b.to (place i j) inside))
  first_fills false b i e l =
      inr (
        e,
        λ j h.
            sym (ap (λ (x : Flow). waits x.from (place i j) && has_room crosscap x.to (place i j)) e)
            ∙ none_passes (λ j. waits b.from (place i j) && has_room crosscap b.to (place i j)) ports (ltb-false (crossing ports crosscap b i) ports l) j h,
      )

crossed_grows : (slot cycle : ℕ) (t : Bool) (b : Flow) (i j x : ℕ) → get_or b.to x 0 ≤ get_or (crossed_one t b slot cycle i j).to x 0
unfolding crossed_one flowed
crossed_grows slot cycle true b i j x = more_grows b.to (place i j) x
crossed_grows slot cycle false b i j x = omega arith

module _ (ports : ℕ) (turn crosscap inlen crosslen : List ℕ) (slot cycle : ℕ) (few : ports ≤ 16) (long : length crosscap ≤ length crosslen) (used : Used ports inlen) where
  fills_or_rests : (u : ℕ) → Filled ports (crossings ports turn crosscap inlen crosslen slot cycle u).to
      ⊎ ((crossings ports turn crosscap inlen crosslen slot cycle u ≡ still inlen crosslen)
      × ((w : ℕ) → w < u → (j : ℕ) → j < ports → crosses crosscap inlen crosslen (get_or turn w 0) j ≡ false))
  unfolding crossings
  fills_or_rests zero = inr (refl, λ w h. absurd (not-suc-le-zero h))
  fills_or_rests (suc u) =
      let b = crossings ports turn crosscap inlen crosslen slot cycle u in
      let i = get_or turn u 0 in
      let j = crossing ports crosscap b i in
      ⊎_elim
      (λ (f : Filled ports b.to). inl (f.0, f.1, f.2, f.3, omega (arith, f.4, crossed_grows slot cycle (ltb j ports) b i j (place f.0 f.1))))
      (λ (s : (b ≡ still inlen crosslen) × ((w : ℕ) → w < u → (j : ℕ) → j < ports → crosses crosscap inlen crosslen (get_or turn w 0) j ≡ false)).
      ⊎_elim inl
      (λ (r : (crossed_one (ltb j ports) b slot cycle i j ≡ still inlen crosslen) × ((j : ℕ) → j < ports → crosses crosscap inlen crosslen i j ≡ false)).
      inr (r.0, λ w h j l. below_suc u w h (λ g. s.1 w g j l) (λ e. ap (λ (x : ℕ). crosses crosscap inlen crosslen (get_or turn x 0) j) e ∙ r.1 j l)))
      (first_fills ports crosscap inlen crosslen slot cycle few long used (ltb j ports) b i s.0 refl))
      (fills_or_rests u)

  pub input_part_fills : (u j : ℕ) → u < length turn → j < ports → 1 ≤ get_or inlen (place (get_or turn u 0) j) 0
      → get_or crosslen (place (get_or turn u 0) j) 0 < get_or crosscap (place (get_or turn u 0) j) 0
      → Filled ports (input_part ports turn crosscap inlen crosslen slot cycle).to
  unfolding input_part
  input_part_fills u j h l some room =
      let k = place (get_or turn u 0) j in
      let can : (waits inlen k && has_room crosscap crosslen k) ≡ true = rw (some_waits inlen k some, some_room crosscap crosslen k room) in
      ⊎_elim (λ f. f) (λ s. absurd (not_both can (s.1 u h j l))) (fills_or_rests (length turn))

-- one output of the output part, seen from another output's queue and crosspoints
module _ (slot cycle : ℕ) (b : Flow) (i j : ℕ) where
  outmoved_apart : (t : Bool) (x y : ℕ) → j < 16 → y < 16 → y ≢ j
      → (get_or (outmoved_one t b slot cycle i j).from (place x y) 0 ≡ get_or b.from (place x y) 0) × (get_or (outmoved_one t b slot cycle i j).to y 0 ≡ get_or b.to y 0)
  unfolding outmoved_one flowed
  outmoved_apart true x y h l d =
      (fewer_other b.from (place i j) (place x y) (λ e. d (place_same x y i j l h e).1), more_other b.to j y d)
  outmoved_apart false x y h l d = (refl, refl)

  outmoved_grows : (t : Bool) (y : ℕ) → get_or b.to y 0 ≤ get_or (outmoved_one t b slot cycle i j).to y 0
  unfolding outmoved_one flowed
  outmoved_grows true y = more_grows b.to j y
  outmoved_grows false y = omega arith

  outmoved_fills : (t : Bool) → t ≡ true → j < length b.to → 1 ≤ get_or (outmoved_one t b slot cycle i j).to j 0
  unfolding outmoved_one flowed
  outmoved_fills true e h = omega (arith, more_here b.to j h)
  outmoved_fills false e h = absurd (not_both e refl)

module _ (turn outcap crosslen outlen : List ℕ) (slot cycle : ℕ) where
  -- an output that has not come is as at the start, and so are its crosspoints
  output_later : (n : ℕ) → n ≤ 16 → (x y : ℕ) → n ≤ y → y < 16
      → (get_or (outmoves turn outcap crosslen outlen slot cycle n).from (place x y) 0 ≡ get_or crosslen (place x y) 0)
      × (get_or (outmoves turn outcap crosslen outlen slot cycle n).to y 0 ≡ get_or outlen y 0)
  unfolding outmoves still
  output_later zero few x y h l = (refl, refl)
  output_later (suc n) few x y h l =
      let b = outmoves turn outcap crosslen outlen slot cycle n in
      let u = outmover turn b n in
      let rest = output_later n (omega arith) x y (omega arith) l in
      let step = outmoved_apart slot cycle b (get_or turn u 0) n (has_room outcap b.to n && ltb u (length turn)) x y (omega arith) l (omega arith) in
      (step.0 ∙ rest.0, step.1 ∙ rest.1)

  module _ (long : length outcap ≤ length outlen) (u y : ℕ) (visited : u < length turn) (some : 1 ≤ get_or crosslen (place (get_or turn u 0) y) 0)
      (room : get_or outlen y 0 < get_or outcap y 0) where
    output_comes : y < 16 → 1 ≤ get_or (outmoves turn outcap crosslen outlen slot cycle (suc y)).to y 0
    unfolding outmoves outmover still
    output_comes few =
        let b = outmoves turn outcap crosslen outlen slot cycle y in
        let v = outmover turn b y in
        let t = has_room outcap b.to y && ltb v (length turn) in
        let now = output_later y (omega arith) (get_or turn u 0) y (omega arith) few in
        let roomy = some_room outcap b.to y (omega arith) in
        let found : v ≤ u =
        lowest_first (λ w. waits b.from (place (get_or turn w 0) y)) (length turn) u
        (some_waits b.from (place (get_or turn u 0) y) (omega arith)) in
        let passes : t ≡ true = rw (roomy, lt-ltb v (length turn) (omega arith)) in
        let inside = room_inside outcap b.to y (omega (arith, to_length (outmoves_legal turn outcap crosslen outlen slot cycle y))) roomy in
        outmoved_fills slot cycle b (get_or turn v 0) y t passes inside

    output_fills : (n : ℕ) → n ≤ 16 → y < n → 1 ≤ get_or (outmoves turn outcap crosslen outlen slot cycle n).to y 0
    unfolding outmoves
    output_fills zero few h = absurd (not-suc-le-zero h)
    output_fills (suc n) few h =
        let b = outmoves turn outcap crosslen outlen slot cycle n in
        let v = outmover turn b n in
        below_suc n y h
        (λ l.
        omega (
          arith,
          output_fills n (omega arith) l,
          outmoved_grows slot cycle b (get_or turn v 0) n (has_room outcap b.to n && ltb v (length turn)) y,
        ))
        (λ e. subst (λ (m : ℕ). 1 ≤ get_or (outmoves turn outcap crosslen outlen slot cycle (suc m)).to y 0) e (output_comes (omega arith)))

    pub output_part_fills : (ports : ℕ) → ports ≤ 16 → y < ports → 1 ≤ get_or (output_part ports turn outcap crosslen outlen slot cycle).to y 0
    unfolding output_part
    output_part_fills ports few h = output_fills ports few h

-- an eligible pair that is visited, and so some pair, gives some output a packet
module _ (ports : ℕ) (turn outcap inlen outlen : List ℕ) (slot cycle : ℕ) (few : ports ≤ 16) where
  some_output : (P : ℕ → ℕ → Type 0) → ((i j : ℕ) → P i j → j < ports) → {m : List (ℕ × ℕ)} → Each P m → (a b : ℕ)
      → 1 ≤ occurs (inputs_of m) a + occurs (outputs_of m) b → (j : ℕ) × (j < ports) × (1 ≤ occurs (outputs_of m) j)
  unfolding occurs
  some_output P below nothing a b h = absurd (omega arith)
  some_output P below (also {m = m} {i = i} {j = j} p rest) a b h = (j, below i j p, omega (arith, occurs_here j (outputs_of m) j refl))

  pub matching_fills : length outcap ≤ length outlen → (u j : ℕ) → u < length turn → j < ports → eligible outcap inlen outlen (get_or turn u 0) j ≡ true
      → (y : ℕ) × (y < ports) × (1 ≤ get_or (matching ports turn outcap inlen outlen slot cycle).to y 0)
  matching_fills long u j h l ok =
      let s = matching_matched ports turn outcap inlen outlen slot cycle in
      let each = pairs_eligible s (λ i. Unit) (λ w g. tt) in
      let out = some_output (λ i j. Unit × (j < ports) × (eligible outcap inlen outlen i j ≡ true)) (λ i j p. p.1) each (get_or turn u 0) j (maximal s u j h l ok) in
      (out.0, out.1, omega (arith, out.2, pairs_came few s long out.0))
