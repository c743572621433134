-- A cycle in which nothing moves leaves the queues as they are, and so does every cycle after it: the number of a cycle is written into its
-- events and decides nothing. So cycles from an idle one on may be left out.
-- Assumes nothing.
use Prim.Native.Nat.{ℕ, zero, suc, ◌+◌, ◌-◌, ◌≤◌}
use native.Mathlib.Nat.{add-zero, add-suc}
use native.Mathlib.Omega.{arith}
use mathlib.Core.Path.{◌≡◌, refl, sym, ap, ap₂, ◌∙◌}
use mathlib.Core.Bool.{Bool, true, false, ◌&&◌}
use mathlib.Core.List.{List, [], ◌∷◌, ◌++◌, append-nil}
use lib.ListN.{length, get_or, length-append}
use lib.Dec.{ltb}
use Rattle.base.specs.Below.{lowest}
use Rattle.queues.specs.declared.Queues.{Queues}
use Rattle.queues.specs.Queues.{place, waits, has_room, lengths}
use Rattle.queues.specs.Events.{Event, crossed_at, outmoved_at}
use Rattle.queues.specs.Flow.{Flow, still, flowed}
use Rattle.queues.specs.Cioq.{choice, Visits, visited, visits, matching}
use Rattle.queues.specs.Crossbar.{crossing, crossed_one, crossings, input_part, outmover, outmoved_one, outmoves, output_part}
use Rattle.queues.specs.Slot.{Done, after, matched, cioq_cycle, crossed_over, outmoved_over, crossbar_cycle, cycle_of, cycles}
use Rattle.slot_laws.proofs.EventsLaws.{more_events}
use Rattle.slot_laws.proofs.Flows.{Legal, none, one}
use Rattle.slot_laws.proofs.Matchings.{matched_legal}
use Rattle.slot_laws.proofs.CioqLaws.{matching_matched}
use Rattle.slot_laws.proofs.CrossbarLaws.{crossings_legal, outmoves_legal}

-- two flows that differ at most in what their events say
record Like (b c : Flow) : Type 0 where
  from : b.from ≡ c.from
  to : b.to ≡ c.to
  count : length b.events ≡ length c.events

like_same : (b : Flow) → Like b b
like_same b = record { from = refl; to = refl; count = refl }

like_flowed : {b c : Flow} (k m : ℕ) (e f : Event) → Like b c → Like (flowed b k m e) (flowed c k m f)
unfolding flowed
like_flowed {b} {c} k m e f s =
    record {
      from = rw s.from;
      to = rw s.to;
      count = omega (arith, s.count, more_events b.events e, more_events c.events f);
    }

module _ (slot cycle other : ℕ) where
  visited_like : (t : Bool) (v w : Visits) (i j : ℕ) → v.taken ≡ w.taken → Like v.flow w.flow
      → ((visited t v slot cycle i j).taken ≡ (visited t w slot other i j).taken) × Like (visited t v slot cycle i j).flow (visited t w slot other i j).flow
  unfolding visited
  visited_like true v w i j e s =
      (ap (λ (l : List ℕ). j ∷ l) e, like_flowed (place i j) j (crossed_at slot cycle i j) (crossed_at slot other i j) s)
  visited_like false v w i j e s = (e, s)

  crossed_like : (t : Bool) (b c : Flow) (i j : ℕ) → Like b c → Like (crossed_one t b slot cycle i j) (crossed_one t c slot other i j)
  unfolding crossed_one
  crossed_like true b c i j s = like_flowed (place i j) (place i j) (crossed_at slot cycle i j) (crossed_at slot other i j) s
  crossed_like false b c i j s = s

  outmoved_like : (t : Bool) (b c : Flow) (i j : ℕ) → Like b c → Like (outmoved_one t b slot cycle i j) (outmoved_one t c slot other i j)
  unfolding outmoved_one
  outmoved_like true b c i j s = like_flowed (place i j) j (outmoved_at slot cycle i j) (outmoved_at slot other i j) s
  outmoved_like false b c i j s = s

crossing_like : (ports : ℕ) (crosscap : List ℕ) (b c : Flow) (i : ℕ) → Like b c → crossing ports crosscap b i ≡ crossing ports crosscap c i
unfolding crossing
crossing_like ports crosscap b c i s =
    ap₂ (λ (from to : List ℕ). lowest (λ j. waits from (place i j) && has_room crosscap to (place i j)) ports) s.from s.to

outmover_like : (turn : List ℕ) (b c : Flow) (j : ℕ) → Like b c → outmover turn b j ≡ outmover turn c j
unfolding outmover
outmover_like turn b c j s = ap (λ (from : List ℕ). lowest (λ u. waits from (place (get_or turn u 0) j)) (length turn)) s.from

module _ (ports : ℕ) (turn cap from to : List ℕ) (slot cycle other : ℕ) where
  visits_like : (u : ℕ) → ((visits ports turn cap from to slot cycle u).taken ≡ (visits ports turn cap from to slot other u).taken)
      × Like (visits ports turn cap from to slot cycle u).flow (visits ports turn cap from to slot other u).flow
  unfolding visits
  visits_like zero = (refl, like_same (still from to))
  visits_like (suc u) =
      let v = visits ports turn cap from to slot cycle u in
      let w = visits ports turn cap from to slot other u in
      let i = get_or turn u 0 in
      let j = choice ports cap from to w.taken i in
      let rest = visits_like u in
      let same : choice ports cap from to v.taken i ≡ j = ap (λ (l : List ℕ). choice ports cap from to l i) rest.0 in
      rw same (visited_like slot cycle other (ltb j ports) v w i j rest.0 rest.1)

  crossings_like : (u : ℕ) → Like (crossings ports turn cap from to slot cycle u) (crossings ports turn cap from to slot other u)
  unfolding crossings
  crossings_like zero = like_same (still from to)
  crossings_like (suc u) =
      let b = crossings ports turn cap from to slot cycle u in
      let c = crossings ports turn cap from to slot other u in
      let i = get_or turn u 0 in
      let j = crossing ports cap c i in
      let rest = crossings_like u in
      rw (crossing_like ports cap b c i rest) (crossed_like slot cycle other (ltb j ports) b c i j rest)

  outmoves_like : (j : ℕ) → Like (outmoves turn cap from to slot cycle j) (outmoves turn cap from to slot other j)
  unfolding outmoves
  outmoves_like zero = like_same (still from to)
  outmoves_like (suc j) =
      let b = outmoves turn cap from to slot cycle j in
      let c = outmoves turn cap from to slot other j in
      let u = outmover turn c j in
      let rest = outmoves_like j in
      let room : has_room cap b.to j ≡ has_room cap c.to j = rw rest.to in
      rw (room, outmover_like turn b c j rest)
      (outmoved_like slot cycle other (has_room cap c.to j && ltb u (length turn)) b c (get_or turn u 0) j rest)

-- legal movement without an event is none
legal_idle : {cap : List ℕ} {kind : ℕ} {f b : Flow} → Legal cap kind f b → length b.events ≡ 0 → b ≡ f
unfolding flowed
legal_idle none h = refl
legal_idle (one {b = b} k m e s w r t) h = absurd (omega (arith, more_events b.events e))

no_events : (es : List Event) → length es ≡ 0 → es ≡ []
no_events [] h = refl
no_events (e ∷ es) h = absurd (omega arith)

lengths_same : (q : Queues) (inlen outlen crosslen : List ℕ) → inlen ≡ q.inlen → outlen ≡ q.outlen → crosslen ≡ q.crosslen
    → lengths q inlen outlen crosslen ≡ q
unfolding lengths
lengths_same q inlen outlen crosslen a b c = λ i. lengths q (a i) (b i) (c i)

-- nothing has moved, and nothing is different
abbrev pub Idle : Queues → Done → Type 0
Idle q d = (d.queues ≡ q) × (d.events ≡ [])

after_idle : (b c : Done) → Idle b.queues c → after b c ≡ b
unfolding after
after_idle b c s = λ i. record { queues = s.0 i; events = (ap (λ (es : List Event). b.events ++ es) s.1 ∙ append-nil b.events) i }

module _ (ports : ℕ) (few : ports ≤ 16) (turn : List ℕ) (slot : ℕ) where
  -- a cycle without events leaves the queues as they are
  matched_idle : (q : Queues) (cycle : ℕ) → length (cioq_cycle q ports turn slot cycle).events ≡ 0 → Idle q (cioq_cycle q ports turn slot cycle)
  unfolding cioq_cycle matched still
  matched_idle q cycle h =
      let f = matching ports turn q.outcap q.inlen q.outlen slot cycle in
      let e = legal_idle (matched_legal few (matching_matched ports turn q.outcap q.inlen q.outlen slot cycle)) h in (
        lengths_same q f.from f.to q.crosslen (ap (λ (x : Flow). x.from) e) (ap (λ (x : Flow). x.to) e) refl,
        no_events f.events h,
      )

  crossbar_idle : (q : Queues) (cycle : ℕ) → length (crossbar_cycle q ports turn slot cycle).events ≡ 0 → Idle q (crossbar_cycle q ports turn slot cycle)
  unfolding crossbar_cycle after crossed_over outmoved_over lengths still input_part output_part
  crossbar_idle q cycle h =
      let f = input_part ports turn q.crosscap q.inlen q.crosslen slot cycle in
      let g = output_part ports turn q.outcap f.to q.outlen slot cycle in
      let n = length-append f.events g.events in
      let e : f ≡ still q.inlen q.crosslen =
      legal_idle (crossings_legal ports turn q.crosscap q.inlen q.crosslen slot cycle (length turn)) (omega arith) in
      let d : g ≡ still f.to q.outlen = legal_idle (outmoves_legal turn q.outcap f.to q.outlen slot cycle ports) (omega arith) in (
        lengths_same q f.from g.to g.from (ap (λ (x : Flow). x.from) e) (ap (λ (x : Flow). x.to) d)
            (ap (λ (x : Flow). x.from) d ∙ ap (λ (x : Flow). x.to) e),
        no_events (f.events ++ g.events) h,
      )

  -- a cycle has as many events under any number
  pub cycle_count : (crossbar : Bool) (q : Queues) (cycle other : ℕ)
      → length (cycle_of crossbar q ports turn slot cycle).events ≡ length (cycle_of crossbar q ports turn slot other).events
  unfolding cycle_of cioq_cycle matched crossbar_cycle after crossed_over outmoved_over lengths matching input_part output_part
  cycle_count false q cycle other = (visits_like ports turn q.outcap q.inlen q.outlen slot cycle other (length turn)).1.count
  cycle_count true q cycle other =
      let f = input_part ports turn q.crosscap q.inlen q.crosslen slot cycle in
      let x = input_part ports turn q.crosscap q.inlen q.crosslen slot other in
      let g = output_part ports turn q.outcap f.to q.outlen slot cycle in
      let y = output_part ports turn q.outcap x.to q.outlen slot other in
      let first = crossings_like ports turn q.crosscap q.inlen q.crosslen slot cycle other (length turn) in
      let second = (outmoves_like ports turn q.outcap f.to q.outlen slot cycle other ports).count in
      let moved = ap (λ (l : List ℕ). length (output_part ports turn q.outcap l q.outlen slot other).events) first.to in
      omega (arith, length-append f.events g.events, length-append x.events y.events, first.count)

  -- where a cycle is idle, it is under any number
  pub cycle_idle : (crossbar : Bool) (q : Queues) (cycle : ℕ) → (cycle_of crossbar q ports turn slot cycle).events ≡ []
      → (other : ℕ) → Idle q (cycle_of crossbar q ports turn slot other)
  unfolding cycle_of
  cycle_idle false q cycle e other = matched_idle q other (sym (cycle_count false q cycle other) ∙ ap length e)
  cycle_idle true q cycle e other = crossbar_idle q other (sym (cycle_count true q cycle other) ∙ ap length e)

  module _ (crossbar : Bool) (q : Queues) (k : ℕ) (idle : (cycle_of crossbar (cycles crossbar q ports turn slot k).queues ports turn slot k).events ≡ []) where
    idle_more : (d : ℕ) → cycles crossbar q ports turn slot (k + d) ≡ cycles crossbar q ports turn slot k
    unfolding cycles
    idle_more zero = rw (add-zero k)
    idle_more (suc d) =
        let b = cycles crossbar q ports turn slot k in
        rw (add-suc k d)
        (ap (λ (x : Done). after x (cycle_of crossbar x.queues ports turn slot (k + d))) (idle_more d)
        ∙ after_idle b (cycle_of crossbar b.queues ports turn slot (k + d)) (cycle_idle crossbar b.queues k idle (k + d)))

    -- from an idle cycle on nothing happens
    pub idle_rest : (n : ℕ) → k ≤ n → cycles crossbar q ports turn slot n ≡ cycles crossbar q ports turn slot k
    idle_rest n h = let e : n ≡ k + (n - k) = omega arith in ap (λ (x : ℕ). cycles crossbar q ports turn slot x) e ∙ idle_more (n - k)
