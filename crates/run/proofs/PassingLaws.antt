-- The history that a loop over the slots has reached: what the queues, the log and the count of drops stand for, and one slot more.
-- Assumes nothing.
use Prim.Native.Nat.{ℕ, ◌+◌, ◌/◌, ◌≤◌, ◌<◌}
use native.Mathlib.Numerals.{add-one}
use native.Mathlib.Omega.{arith}
use mathlib.Core.Path.{◌≡◌, refl, sym, ap, ap₂, ◌∙◌, subst}
use mathlib.Core.List.{List}
use lib.ListN.{length}
use Rattle.layout.specs.declared.Header.{Header}
use Rattle.layout.specs.Header.{has_crosspoints}
use Rattle.trace.specs.Reading.{header_of, slot_count, reading}
use Rattle.trace.specs.Slots.{before, part_from}
use Rattle.layout.proofs.HeaderLaws.{allowed}
use Rattle.trace.proofs.ReadingLaws.{whole}
use Rattle.queues.specs.declared.Queues.{Queues}
use Rattle.queues.specs.Events.{log_of}
use Rattle.queues.specs.Log.{logged, onward}
use Rattle.queues.specs.Turn.{turn}
use Rattle.queues.specs.Slot.{Done, after, closing}
use Rattle.switch.specs.declared.Switch.{Switch}
use Rattle.switch.specs.Switch.{advanced}
use Rattle.switch.specs.Making.{unused, fresh}
use Rattle.switch.proofs.KeepsLaws.{conserved}
use Rattle.run.specs.declared.Took.{Took}
use Rattle.run.specs.Run.{History, grown, arrivals, closed, slots, whole as whole_run}
use Rattle.run.specs.Taking.{takings, slot_of, Taken}
use Rattle.run.proofs.FoldLaws.{grown_then, part_length, arrivals_takings}
use Rattle.run.proofs.HistoryLaws.{Reached, history_allowed, before_more, before_grows, before_all, before_few}
use Rattle.run.proofs.TakingLaws.{logs_then, places_then}

-- the history that the queues, the log and the count of drops stand for
pub record Here (log : List ℕ) (h : History) (q : Queues) (kept : List ℕ) (at dropped : ℕ) : Type 0 where
  pub of_queues : q ≡ h.switch.queues
  pub of_log : kept ≡ logged log 0 (log_of h.events)
  pub of_at : at ≡ onward (length log) 0 (length h.events)
  pub of_dropped : dropped ≡ h.switch.dropped

-- what is done to the queues, added to the history
pub here_then : (log mid kept : List ℕ) (h : History) (q p : Queues) (at dropped : ℕ) (r : Took) (d : Done) (slot : ℕ) → Here log h q mid at dropped → Taken d p mid kept at r → Here log (grown h d slot) p kept r.at (dropped + r.dropped)
unfolding grown advanced
here_then log mid kept h q p at dropped r d slot a b =
    record {
      of_queues = b.of_queues;
      of_log = logs_then log mid kept 0 at h.events d.events a.of_log a.of_at b.of_log;
      of_at = places_then log mid 0 at r.at h.events d.events a.of_log a.of_at b.of_at;
      of_dropped = ap₂ ◌+◌ a.of_dropped b.of_dropped;
    }

pub here_start : (s log : List ℕ) (q : Queues) → q ≡ (fresh s).queues → Here log (slots s 0) q log 0 0
unfolding slots fresh unused log_of logged onward
here_start s log q e = record { of_queues = e; of_log = refl; of_at = refl; of_dropped = refl }

-- closing after what was done
closed_grown : (h : History) (d : Done) → closed (grown h d h.switch.slot) ≡ grown h (after d (closing (has_crosspoints h.switch.model) d.queues h.switch.ports (turn h.switch.order h.switch.ports h.switch.slot) h.switch.speedup h.switch.slot)) (h.switch.slot + 1)
unfolding closed grown advanced
closed_grown h d =
    grown_then h d (closing (has_crosspoints h.switch.model) d.queues h.switch.ports (turn h.switch.order h.switch.ports h.switch.slot) h.switch.speedup h.switch.slot) h.switch.slot (h.switch.slot + 1)

-- a slot, by the numbers of the switch that it finds
slot_by : History → ℕ → ℕ → ℕ → ℕ → ℕ → List ℕ → History
slot_by h model order ports speedup slot part = grown h (slot_of (has_crosspoints model) h.switch.queues ports (turn order ports slot) speedup slot part) (slot + 1)

same_slot : (h : History) (a a' b b' c c' d d' e e' : ℕ) (part : List ℕ) → a ≡ a' → b ≡ b' → c ≡ c' → d ≡ d' → e ≡ e' → slot_by h a b c d e part ≡ slot_by h a' b' c' d' e' part
same_slot h a a' b b' c c' d d' e e' part p q r s t = λ i. slot_by h (p i) (q i) (r i) (s i) (t i) part

-- one slot more of an accepted trace
module _ (s : List ℕ) (accepted : reading s ≡ 0) (t : ℕ) (below : t < (header_of s).slots) where
  abbrev part_of : List ℕ
  part_of = part_from s t (before s t)

  abbrev pub done_in : Done
  done_in = slot_of (has_crosspoints (header_of s).model) (slots s t).switch.queues (header_of s).ports (turn (header_of s).order (header_of s).ports t) (header_of s).speedup t part_of

  reached : Reached s t (before s t) (slots s t).switch
  reached = history_allowed s accepted t (omega arith)

  pub part_count : length (part_from s t (before s t)) / 2 ≡ slot_count s t
  part_count = let n = part_length s accepted t below in omega arith

  by_arrivals : arrivals s (slots s t) (before s t) (slot_count s t) ≡ grown (slots s t) (takings (slots s t).switch.queues (slots s t).switch.slot (part_from s t (before s t)) (length (part_from s t (before s t)) / 2)) (slots s t).switch.slot
  by_arrivals = rw part_count (arrivals_takings s accepted t below (slots s t) (slot_count s t) (omega arith))

  pub slot_grows : slots s (t + 1) ≡ grown (slots s t) (slot_of (has_crosspoints (header_of s).model) (slots s t).switch.queues (header_of s).ports (turn (header_of s).order (header_of s).ports t) (header_of s).speedup t (part_from s t (before s t))) (t + 1)
  unfolding slots slot_by slot_of
  slot_grows =
      let w = (slots s t).switch in
      ap (slots s) (add-one t)
      ∙ ap closed by_arrivals
      ∙ closed_grown (slots s t) (takings w.queues w.slot (part_from s t (before s t)) (length (part_from s t (before s t)) / 2))
      ∙ same_slot (slots s t) w.model (header_of s).model w.order (header_of s).order w.ports (header_of s).ports w.speedup (header_of s).speedup w.slot t (part_from s t (before s t)) reached.model reached.order reached.ports reached.speedup reached.slot

  -- what the slot leaves in the queues and the log is the history with that slot
  pub here_by : (h : Header) (q p : Queues) (part log mid kept : List ℕ) (at dropped : ℕ) (r : Took) → h ≡ header_of s → part ≡ part_of → Here log (slots s t) q mid at dropped → Taken (slot_of (has_crosspoints h.model) q h.ports (turn h.order h.ports t) h.speedup t part) p mid kept at r → Here log (slots s (t + 1)) p kept r.at (dropped + r.dropped)
  here_by h q p part log mid kept at dropped r eh ep a b =
      subst (λ (h : History). Here log h p kept r.at (dropped + r.dropped)) (sym slot_grows)
      (here_then log mid kept (slots s t) q p at dropped r done_in (t + 1) a
      (subst (λ (d : Done). Taken d p mid kept at r)
      (λ i. slot_of (has_crosspoints (eh i).model) (a.of_queues i) (eh i).ports (turn (eh i).order (eh i).ports t) (eh i).speedup t (ep i)) b))

  pub start_next : (start : ℕ) (part : List ℕ) → start ≡ before s t → part ≡ part_of → start + length part / 2 ≡ before s (t + 1)
  start_next start part es ep = ap (λ (n : ℕ). n + length part / 2) es ∙ ap (λ (p : List ℕ). before s t + length p / 2) ep ∙ ap (λ (n : ℕ). before s t + n) part_count ∙ sym (before_more s t) ∙ ap (before s) (sym (add-one t))

  pub part_few : (part : List ℕ) → part ≡ part_of → length part ≤ 8192
  part_few part ep = let n = ap length ep in omega (arith, part_length s accepted t below, before_few s accepted t below, (allowed (header_of s) (whole s accepted).header).arrivals)

module _ (s : List ℕ) (accepted : reading s ≡ 0) where
  pub ports_few : (h : Header) → h ≡ header_of s → h.ports ≤ 16
  ports_few h e = rw e (allowed (header_of s) (whole s accepted).header).ports.1

  pub ports_of_lem : (w : Switch) → w ≡ fresh s → w.ports ≤ 16
  unfolding fresh unused
  ports_of_lem w e = let same : w.ports ≡ (header_of s).ports = ap (λ (v : Switch). v.ports) e in omega (arith, (allowed (header_of s) (whole s accepted).header).ports.1)

  -- neither the drops nor the arrivals passed are more than 4,096
  pub drops_few : (t : ℕ) → t ≤ (header_of s).slots → (slots s t).switch.dropped ≤ 4096
  drops_few t h =
      let r = history_allowed s accepted t h in
      let c = (conserved (slots s t).switch r.allowed).crossed in
      let n = before_grows s t (header_of s).slots h in
      omega (arith, r.arrived, before_all s accepted, (allowed (header_of s) (whole s accepted).header).arrivals)

  pub passed_few : (t : ℕ) → t ≤ (header_of s).slots → before s t ≤ 4096
  passed_few t h = omega (arith, before_grows s t (header_of s).slots h, before_all s accepted, (allowed (header_of s) (whole s accepted).header).arrivals)

  pub here_end : (t : ℕ) (log : List ℕ) (q : Queues) (kept : List ℕ) (at dropped : ℕ) → t ≡ (header_of s).slots → Here log (slots s t) q kept at dropped → Here log (whole_run s) q kept at dropped
  unfolding whole_run
  here_end t log q kept at dropped e a = subst (λ (n : ℕ). Here log (slots s n) q kept at dropped) e a
