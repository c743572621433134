-- A slot in place: the arrivals and then the closing, as both are left.
-- Assumes nothing.
use Prim.Native.Nat.{ℕ, zero, suc, ◌+◌, ◌*◌, ◌/◌, ◌≤◌, min}
use native.Mathlib.Nat.{add-zero}
use mathlib.Core.Path.{◌≡◌, sym, subst}
use mathlib.Core.Bool.{Bool}
use mathlib.Core.List.{List}
use lib.ListN.{length, get_or, take}
use Rattle.queues.specs.declared.Queues.{Queues}
use Rattle.queues.specs.Queues.{lengths}
use Rattle.queues.specs.Events.{of_kind}
use Rattle.queues.specs.Turn.{turn, turn_places}
use Rattle.queues.specs.Lent.{LeftAll}
use Rattle.queues.specs.Slot.{Done, begun, after, closing}
use Rattle.slot_laws.proofs.Balance.{Sized, Kept, kept_same, kept_then, kept_sized}
use Rattle.slot_laws.proofs.SlotLaws.{arrival_arrived, closing_balanced}
use Rattle.switch.proofs.SettlingLaws.{same_closing, closed_as}
use Rattle.run.specs.declared.Took.{Took}
use Rattle.run.specs.Taking.{takings, slot_of, Taken}
use Rattle.run.proofs.TakingLaws.{taken_then}

-- arrivals keep the capacities and the numbers of queues
pub takings_kept : (q : Queues) (slot : ℕ) (part : List ℕ) (k : ℕ) → Sized q → Kept q (takings q slot part k).queues
unfolding takings begun after
takings_kept q slot part zero z = kept_same q
takings_kept q slot part (suc k) z =
    let b = takings q slot part k in
    let rest = takings_kept q slot part k z in
    kept_then rest (arrival_arrived b.queues slot (get_or part (2 * k) 0) (get_or part (2 * k + 1) 0) (kept_sized rest z)).kept

-- the whole slot, on the first N of 16 places in turn: the closing changes lengths alone and drops nothing
pub slot_left : (crossbar : Bool) (q p : Queues) (order ports speedup slot : ℕ) (part places i o x log mid kept : List ℕ) (at to : ℕ) (r : Took) → Sized q → ports ≤ 16 → places ≡ turn_places order ports slot → Taken (takings q slot part (length part / 2)) p log mid at r → LeftAll (closing crossbar p (min ports 16) (take (min ports 16) places) speedup slot) i o x mid kept r.at to → Taken (slot_of crossbar q ports (turn order ports slot) speedup slot part) (lengths p i o x) log kept at (record { at = to; dropped = r.dropped })
unfolding slot_of lengths
slot_left crossbar q p order ports speedup slot part places i o x log mid kept at to r sized few e t l =
    let d : Done = takings q slot part (length part / 2) in
    let z : Sized p = rw t.of_queues (kept_sized (takings_kept q slot part (length part / 2) sized) sized) in
    let c : Done = closing crossbar p ports (turn order ports slot) speedup slot in
    let k : LeftAll c i o x mid kept r.at to = subst (λ (c : Done). LeftAll c i o x mid kept r.at to) (same_closing crossbar p order ports speedup slot places few e) l in
    let none : 0 ≡ of_kind 2 c.events = sym (closing_balanced ports few (turn order ports slot) slot crossbar p z speedup).dropped in
    let after_closing : Taken c (lengths p i o x) mid kept r.at (record { at = to; dropped = 0 }) =
    record {
      of_queues = closed_as crossbar p ports (turn order ports slot) speedup slot i o x z few k.of_inlen k.of_outlen k.of_crosslen;
      of_log = k.of_log;
      of_at = k.of_at;
      of_dropped = none;
    } in
    rw add-zero at
    (taken_then d (closing crossbar d.queues ports (turn order ports slot) speedup slot) p (lengths p i o x) log mid kept at r (record { at = to; dropped = 0 }) t
    (subst (λ (p' : Queues). Taken (closing crossbar p' ports (turn order ports slot) speedup slot) (lengths p i o x) mid kept r.at (record { at = to; dropped = 0 })) t.of_queues after_closing))
