-- What is left after the cycles and after the sendings: nothing yet, one cycle more, an idle cycle, one output more, and the whole.
-- Assumes nothing.
use Prim.Native.Nat.{ℕ, zero, suc, ◌+◌, ◌≤◌}
use native.Mathlib.Numerals.{add-one}
use native.Mathlib.Omega.{arith}
use mathlib.Core.Path.{◌≡◌, refl, sym, ap, ap₂, ◌∙◌}
use mathlib.Core.Bool.{Bool, true, false, ◌&&◌, ◌||◌, true≢false}
use mathlib.Core.List.{List, [], ◌∷◌, ◌++◌, append-nil}
use lib.ListN.{length}
use Rattle.queues.specs.declared.Queues.{Queues}
use Rattle.queues.specs.declared.Went.{Went}
use Rattle.queues.specs.Queues.{waits, fewer, lengths}
use Rattle.queues.specs.Events.{Event, word, log_of, sent_at, happened}
use Rattle.queues.specs.Log.{entered, logged, onward}
use Rattle.queues.specs.Cioq.{matching}
use Rattle.queues.specs.Crossbar.{input_part, output_part}
use Rattle.queues.specs.Slot.{Done, begun, after, matched, cioq_cycle, crossed_over, outmoved_over, crossbar_cycle, cycle_of, cycles, Sendings, sent_one, sendings, free, send_over, closing}
use Rattle.queues.specs.Lent.{Left, Held, LeftAll}
use Rattle.slot_laws.proofs.IdleLaws.{idle_rest}
use Rattle.queues.proofs.MoveLaws.{happened_then, log_then, at_then}
use Rattle.closing.specs.Sent.{Sent, unsent, send_step}

module _ (q : Queues) (ports : ℕ) (turn : List ℕ) (slot cycle : ℕ) {outcap crosscap inlen outlen crosslen : List ℕ} (h : Held q outcap crosscap inlen outlen crosslen) where
  -- a cycle of the CIOQ switch
  pub cioq_left : {inlen' outlen' log kept : List ℕ} {at : ℕ} {r : Went} → Left (matching ports turn outcap inlen outlen slot cycle) inlen' outlen' log kept at r
      → LeftAll (cycle_of false q ports turn slot cycle) inlen' outlen' crosslen log kept at r.at × (r.moved ≡ happened (cycle_of false q ports turn slot cycle).events)
  unfolding cycle_of cioq_cycle matched lengths
  cioq_left x =
      let y = rw (h.of_outcap, h.of_inlen, h.of_outlen) at x in (
        record { of_inlen = y.of_from; of_outlen = y.of_to; of_crosslen = h.of_crosslen; of_log = y.of_log; of_at = y.of_at },
        y.of_moved,
      )

  -- a cycle of the crossbar
  pub crossbar_left : {inlen' crosslen' crosslen'' outlen'' log kept kept'' : List ℕ} {at : ℕ} {r s t : Went} → Left (input_part ports turn crosscap inlen crosslen slot cycle) inlen' crosslen' log kept at r
      → Left (output_part ports turn outcap crosslen' outlen slot cycle) crosslen'' outlen'' kept kept'' r.at s
      → t ≡ record { at = s.at; moved = r.moved || s.moved }
      → LeftAll (cycle_of true q ports turn slot cycle) inlen' outlen'' crosslen'' log kept'' at t.at × (t.moved ≡ happened (cycle_of true q ports turn slot cycle).events)
  unfolding cycle_of crossbar_cycle after crossed_over outmoved_over lengths
  crossbar_left {log = log} {at = at} x y e =
      let f = input_part ports turn q.crosscap q.inlen q.crosslen slot cycle in
      let g = output_part ports turn q.outcap f.to q.outlen slot cycle in
      let v = rw (h.of_crosscap, h.of_inlen, h.of_crosslen) at x in
      let w = rw (h.of_outcap, v.of_to, h.of_outlen) at y in (
        record {
          of_inlen = v.of_from;
          of_outlen = w.of_to;
          of_crosslen = w.of_from;
          of_log = log_then log at f.events g.events v.of_log v.of_at w.of_log;
          of_at = ap (λ (x : Went). x.at) e ∙ at_then log at f.events g.events v.of_log v.of_at w.of_at;
        },
        ap (λ (x : Went). x.moved) e ∙ ap₂ ◌||◌ v.of_moved w.of_moved ∙ sym (happened_then f.events g.events),
      )

-- one thing after another
all_then : {b c : Done} {inlen outlen crosslen inlen' outlen' crosslen' kept kept' : List ℕ} {p p' : ℕ} (log : List ℕ) (at : ℕ) → LeftAll b inlen outlen crosslen log kept at p
    → LeftAll c inlen' outlen' crosslen' kept kept' p p' → LeftAll (after b c) inlen' outlen' crosslen' log kept' at p'
unfolding after
all_then {b} {c} log at x y =
    record {
      of_inlen = y.of_inlen;
      of_outlen = y.of_outlen;
      of_crosslen = y.of_crosslen;
      of_log = log_then log at b.events c.events x.of_log x.of_at y.of_log;
      of_at = at_then log at b.events c.events x.of_log x.of_at y.of_at;
    }

none_happened : (es : List Event) → happened es ≡ false → es ≡ []
unfolding happened
none_happened [] h = refl
none_happened (e ∷ es) h = absurd (true≢false h)

-- the cycles keep the capacities
cycle_caps : (crossbar : Bool) (q : Queues) (ports : ℕ) (turn : List ℕ) (slot cycle : ℕ)
    → ((cycle_of crossbar q ports turn slot cycle).queues.outcap ≡ q.outcap) × ((cycle_of crossbar q ports turn slot cycle).queues.crosscap ≡ q.crosscap)
unfolding cycle_of cioq_cycle matched crossbar_cycle after crossed_over outmoved_over lengths
cycle_caps true q ports turn slot cycle = (refl, refl)
cycle_caps false q ports turn slot cycle = (refl, refl)

module _ (crossbar : Bool) (q : Queues) (ports : ℕ) (turn : List ℕ) (slot : ℕ) where
  cycles_caps : (k : ℕ) → ((cycles crossbar q ports turn slot k).queues.outcap ≡ q.outcap) × ((cycles crossbar q ports turn slot k).queues.crosscap ≡ q.crosscap)
  unfolding cycles begun after
  cycles_caps zero = (refl, refl)
  cycles_caps (suc k) =
      let b = cycles crossbar q ports turn slot k in
      let c = cycle_caps crossbar b.queues ports turn slot k in
      let rest = cycles_caps k in
      (c.0 ∙ rest.0, c.1 ∙ rest.1)

  -- the lent arrays hold the switch after k cycles
  held_after : {outcap crosscap inlen outlen crosslen inlen' outlen' crosslen' log kept : List ℕ} {at p : ℕ} (k : ℕ) → Held q outcap crosscap inlen outlen crosslen
      → LeftAll (cycles crossbar q ports turn slot k) inlen' outlen' crosslen' log kept at p → Held (cycles crossbar q ports turn slot k).queues outcap crosscap inlen' outlen' crosslen'
  held_after k h x =
      let caps = cycles_caps k in
      record {
        of_outcap = h.of_outcap ∙ sym caps.0;
        of_crosscap = h.of_crosscap ∙ sym caps.1;
        of_inlen = x.of_inlen;
        of_outlen = x.of_outlen;
        of_crosslen = x.of_crosslen;
      }

  -- no cycle yet
  pub cycles_begun : {outcap crosscap inlen outlen crosslen : List ℕ} (log : List ℕ) (at : ℕ) → Held q outcap crosscap inlen outlen crosslen
      → LeftAll (cycles crossbar q ports turn slot 0) inlen outlen crosslen log log at at
  unfolding cycles begun log_of logged onward
  cycles_begun log at h = record { of_inlen = h.of_inlen; of_outlen = h.of_outlen; of_crosslen = h.of_crosslen; of_log = refl; of_at = refl }

  -- one cycle more
  module _ {outcap crosscap inlen outlen crosslen inlen' outlen' crosslen' inlen'' outlen'' crosslen'' kept kept'' : List ℕ} {p : ℕ} {r : Went} (log : List ℕ) (at k : ℕ)
      (h : Held q outcap crosscap inlen outlen crosslen)
      (x : LeftAll (cycles crossbar q ports turn slot k) inlen' outlen' crosslen' log kept at p)
      (y : (q : Queues) → Held q outcap crosscap inlen' outlen' crosslen'
      → LeftAll (cycle_of crossbar q ports turn slot k) inlen'' outlen'' crosslen'' kept kept'' p r.at × (r.moved ≡ happened (cycle_of crossbar q ports turn slot k).events)) where
    this_cycle : LeftAll (cycle_of crossbar (cycles crossbar q ports turn slot k).queues ports turn slot k) inlen'' outlen'' crosslen'' kept kept'' p r.at
        × (r.moved ≡ happened (cycle_of crossbar (cycles crossbar q ports turn slot k).queues ports turn slot k).events)
    this_cycle = y (cycles crossbar q ports turn slot k).queues (held_after k h x)

    pub cycles_more : LeftAll (cycles crossbar q ports turn slot (k + 1)) inlen'' outlen'' crosslen'' log kept'' at r.at
    unfolding cycles
    cycles_more = rw add-one (all_then log at x this_cycle.0)

    -- nothing moved in it, so no cycle after it would move anything
    pub cycles_idle : (speedup : ℕ) → ports ≤ 16 → k ≤ speedup → r.moved ≡ false → LeftAll (cycles crossbar q ports turn slot speedup) inlen'' outlen'' crosslen'' log kept'' at r.at
    cycles_idle speedup few less e =
        let none = none_happened _ (sym this_cycle.1 ∙ e) in
        let same : cycles crossbar q ports turn slot speedup ≡ cycles crossbar q ports turn slot (k + 1) =
        idle_rest ports few turn slot crossbar q k none speedup less ∙ sym (idle_rest ports few turn slot crossbar q k none (k + 1) (omega arith)) in
        rw same cycles_more

  -- the sendings after all cycles
  pub closing_left : {inlen outlen crosslen outlen' kept kept' : List ℕ} {p p' : ℕ} (speedup : ℕ) (log : List ℕ) (at : ℕ)
      → LeftAll (cycles crossbar q ports turn slot speedup) inlen outlen crosslen log kept at p
      → Sent (sendings free outlen slot ports) outlen' kept kept' p p' → LeftAll (closing crossbar q ports turn speedup slot) inlen outlen' crosslen log kept' at p'
  unfolding closing send_over lengths
  closing_left speedup log at x y =
      let z = rw x.of_outlen at y in
      all_then log at x (record { of_inlen = x.of_inlen; of_outlen = z.of_outlen; of_crosslen = x.of_crosslen; of_log = z.of_log; of_at = z.of_at })

-- one output
module _ (outlen : List ℕ) (slot j : ℕ) (log : List ℕ) (at : ℕ) where
  pub sends_none : waits outlen j ≡ false → Sent (send_step (unsent outlen) slot j) outlen log log at at
  unfolding send_step sent_one unsent log_of logged onward
  sends_none e = rw e (record { of_outlen = refl; of_log = refl; of_at = refl })

  pub sends_one_lem : waits outlen j ≡ true → {outlen' kept : List ℕ} {w next : ℕ} → outlen' ≡ fewer outlen j → w ≡ word (sent_at slot j) → kept ≡ entered log at w → next ≡ onward (length log) at 1
      → Sent (send_step (unsent outlen) slot j) outlen' log kept at next
  unfolding send_step sent_one unsent free log_of logged
  sends_one_lem e f v l n = rw e (record { of_outlen = f; of_log = rw v at l; of_at = n })

-- one output more
sent_after : (t : Bool) (b : Sendings) (slot j : ℕ)
    → sent_one t b slot j ≡ record { outlen = (sent_one t (unsent b.outlen) slot j).outlen; events = b.events ++ (sent_one t (unsent b.outlen) slot j).events }
unfolding sent_one unsent
sent_after true b slot j = refl
sent_after false b slot j = ap (λ (es : List Event). record { outlen = b.outlen; events = es }) (sym (append-nil b.events))

pub sendings_more : (outlen : List ℕ) (slot j : ℕ) (log : List ℕ) (at : ℕ) {outlen' outlen'' kept kept'' : List ℕ} {p p'' : ℕ} → Sent (sendings free outlen slot j) outlen' log kept at p
    → Sent (send_step (unsent outlen') slot j) outlen'' kept kept'' p p'' → Sent (sendings free outlen slot (j + 1)) outlen'' log kept'' at p''
unfolding sendings send_step unsent
sendings_more outlen slot j log at x y =
    let b = sendings free outlen slot j in
    let t = waits b.outlen j && free j in
    let c = sent_one t (unsent b.outlen) slot j in
    let z = rw x.of_outlen at y in
    rw (add-one, sent_after t b slot j)
    (record {
      of_outlen = z.of_outlen;
      of_log = log_then log at b.events c.events x.of_log x.of_at z.of_log;
      of_at = at_then log at b.events c.events x.of_log x.of_at z.of_at;
    })

pub sendings_done : (n j : ℕ) (outlen : List ℕ) (slot : ℕ) {outlen' log kept : List ℕ} {at p : ℕ} → j ≡ n → Sent (sendings free outlen slot j) outlen' log kept at p
    → Sent (sendings free outlen slot n) outlen' log kept at p
sendings_done n j outlen slot e x = rw e at x
