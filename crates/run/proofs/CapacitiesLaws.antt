-- A run keeps the capacities: of every accepted trace those after t slots are the new switch's.
-- Assumes nothing.
use Prim.Native.Nat.{ℕ, zero, suc, ◌+◌, ◌/◌, ◌≤◌, ◌<◌}
use native.Mathlib.Numerals.{add-one}
use native.Mathlib.Omega.{arith}
use mathlib.Core.Path.{◌≡◌, sym, subst}
use mathlib.Core.Bool.{Bool}
use mathlib.Core.List.{List}
use lib.ListN.{length}
use Rattle.layout.specs.Header.{has_crosspoints}
use Rattle.layout.proofs.HeaderLaws.{allowed}
use Rattle.trace.specs.Reading.{header_of, reading}
use Rattle.trace.specs.Slots.{before, part_from}
use Rattle.trace.proofs.ReadingLaws.{whole}
use Rattle.queues.specs.declared.Queues.{Queues}
use Rattle.queues.specs.Turn.{turn}
use Rattle.queues.specs.Slot.{after}
use Rattle.slot_laws.proofs.Balance.{Sized, Kept, kept_same, kept_then, kept_sized}
use Rattle.slot_laws.proofs.SlotLaws.{closing_balanced}
use Rattle.switch.specs.Switch.{advanced}
use Rattle.switch.specs.Making.{fresh}
use Rattle.run.specs.Run.{History, grown, slots}
use Rattle.run.specs.Taking.{takings, slot_of}
use Rattle.run.proofs.HistoryLaws.{history_allowed}
use Rattle.run.proofs.SlotsLaws.{takings_kept}
use Rattle.run.proofs.PassingLaws.{slot_grows}

slot_kept : (crossbar : Bool) (q : Queues) (ports : ℕ) (turn : List ℕ) (speedup slot : ℕ) (part : List ℕ) → Sized q → ports ≤ 16 → Kept q (slot_of crossbar q ports turn speedup slot part).queues
unfolding slot_of after
slot_kept crossbar q ports turn speedup slot part z few =
    let k = takings_kept q slot part (length part / 2) z in
    kept_then k (closing_balanced ports few turn slot crossbar (takings q slot part (length part / 2)).queues (kept_sized k z) speedup).kept

-- one slot more of an accepted trace
pub slot_stays : (s : List ℕ) (accepted : reading s ≡ 0) (t : ℕ) (below : t < (header_of s).slots) → Kept (slots s t).switch.queues (slots s (t + 1)).switch.queues
unfolding grown advanced
slot_stays s accepted t below =
    subst (λ (h : History). Kept (slots s t).switch.queues h.switch.queues) (sym (slot_grows s accepted t below))
    (slot_kept (has_crosspoints (header_of s).model) (slots s t).switch.queues (header_of s).ports (turn (header_of s).order (header_of s).ports t) (header_of s).speedup t (part_from s t (before s t)) (history_allowed s accepted t (omega arith)).sized (allowed (header_of s) (whole s accepted).header).ports.1)

pub slots_stay : (s : List ℕ) (accepted : reading s ≡ 0) (t : ℕ) → t ≤ (header_of s).slots → Kept (fresh s).queues (slots s t).switch.queues
slots_stay s accepted zero h = unfold slots in kept_same (fresh s).queues
slots_stay s accepted (suc t) h = kept_then (slots_stay s accepted t (omega arith)) (rw add-one at (slot_stays s accepted t h))
