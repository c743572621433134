-- Both steps keep a switch allowed. Its numbers but the slot, the counts and the queues stay; the queues stay allowed because a step keeps
-- them within their capacities (`QueuesKept`); and the counts go on agreeing with what is held because a step's events account for the
-- queues (`Arrived` and `Balanced` of the slot laws). An arrival is one more that arrived, and a closing one more slot.
-- Assumes nothing.
use Prim.Native.Nat.{ℕ, ◌+◌, ◌≤◌, ◌<◌}
use native.Mathlib.Omega.{arith}
use mathlib.Core.Path.{◌≡◌, refl, ap}
use mathlib.Core.Bool.{Bool, true, false}
use mathlib.Core.List.{List}
use lib.Dec.{leb}
use borrow.Author.Tests.{le-leb, eq-eqb}
use Rattle.base.proofs.Sums.{total}
use Rattle.layout.specs.Header.{side_allowed, has_crosspoints}
use Rattle.queues.specs.declared.Queues.{Queues}
use Rattle.queues.specs.Events.{of_kind}
use Rattle.queues.specs.Turn.{turn}
use Rattle.queues.specs.Slot.{Done, arrival, closing}
use Rattle.slot_laws.proofs.Balance.{Sized, Bounded, kept_sized, Balanced, balanced_held}
use Rattle.slot_laws.proofs.SlotLaws.{Arrived, arrival_arrived, closing_balanced}
use Rattle.switch.specs.declared.Switch.{Switch}
use Rattle.switch.specs.Switch.{packets, held_in, held_out, held_cross, held_all, held, outmoved_kind, advanced}
use Rattle.switch.specs.Allowed.{counts_agree, switch_allowed}
use Rattle.switch.specs.Steps.{arrive_refusal, arrive_step, close_step}
use Rattle.switch.proofs.AllowedLaws.{Sound, sound}
use Rattle.switch.proofs.StepsLaws.{more_may_arrive}
use Rattle.switch.proofs.QueuesKept.{both, allowed_bounded, queues_kept}

side_allowed_lem : (n : ℕ) → (1 ≤ n) × (n ≤ 16) → side_allowed n ≡ true
unfolding side_allowed
side_allowed_lem n h = both (leb 1 n) (leb n 16) (le-leb 1 n h.0) (le-leb n 16 h.1)

-- the other way round from `sound`
pub allowed_by_parts : (s : Switch) → Sound s → switch_allowed s ≡ true
unfolding switch_allowed counts_agree
allowed_by_parts s a =
    both _ _ a.model
    (both _ _ a.order
    (both _ _ (side_allowed_lem s.ports a.ports)
    (both _ _ (side_allowed_lem s.speedup a.speedup)
    (both _ _ a.queues
    (both _ _ (le-leb s.arrived 4096 a.few)
    (both _ _ (le-leb s.slot 8192 a.slot)
    (both _ _ (eq-eqb _ _ a.arrived) (both _ _ (eq-eqb _ _ a.crossed) (eq-eqb _ _ a.outmoved)))))))))

-- what arrived was dropped, was sent or is held, always. What was sent had moved out, what moved out had crossed, and what crossed had arrived
-- and was not dropped
pub record Conserved (s : Switch) : Type 0 where
  pub arrived : s.arrived ≡ s.dropped + s.sent + held s
  pub sent : s.sent ≤ s.outmoved
  pub outmoved : s.outmoved ≤ s.crossed
  pub crossed : s.crossed + s.dropped ≤ s.arrived
  pub sent_arrived : s.sent ≤ s.arrived
  pub crossed_arrived : s.crossed ≤ s.arrived

pub conserved : (s : Switch) → switch_allowed s ≡ true → Conserved s
unfolding held held_all
conserved s e =
    let a = sound s e in
    record {
      arrived = a.arrived;
      sent = omega arith;
      outmoved = omega arith;
      crossed = omega arith;
      sent_arrived = omega arith;
      crossed_arrived = omega arith;
    }

-- no queue of an allowed switch is above its capacity
pub never_above : (s : Switch) → Sized s.queues → switch_allowed s ≡ true → Bounded s.queues
never_above s z e = allowed_bounded s.model s.ports s.queues z (sound s e).queues

outmoved_none : (t : Bool) (q : Queues) (d : Done) → Arrived q d → of_kind (outmoved_kind t) d.events ≡ 0
unfolding outmoved_kind
outmoved_none true q d a = a.others 4 (omega arith)
outmoved_none false q d a = a.others 3 (omega arith)

pub arrive_keeps : (s : Switch) (i j : ℕ) → Sized s.queues → arrive_refusal s i j ≡ 0
    → (switch_allowed (arrive_step s i j) ≡ true) × Sized (arrive_step s i j).queues
unfolding arrive_step advanced held held_all held_in held_out held_cross packets
arrive_keeps s i j z e =
    let may = more_may_arrive s i j e in
    let a = sound s may.0 in
    let d = arrival s.queues s.slot i j in
    let r = arrival_arrived s.queues s.slot i j z in
    let three = r.others 3 (omega arith) in
    let five = r.others 5 (omega arith) in
    let out = outmoved_none (has_crosspoints s.model) s.queues d r in
    let outputs = ap (λ (l : List ℕ). total l 16) r.outlen in
    let crosspoints = ap (λ (l : List ℕ). total l 256) r.crosslen in (
      allowed_by_parts _
          (record {
            model = a.model;
            order = a.order;
            ports = a.ports;
            speedup = a.speedup;
            queues = queues_kept s.model s.ports s.queues z a.queues d.queues r.kept;
            few = omega arith;
            slot = a.slot;
            arrived = omega arith;
            crossed = omega arith;
            outmoved = omega arith;
          }),
      kept_sized r.kept z,
    )

-- the rest of the switch's slot, as its closing does it
abbrev pub closing_of : Switch → Done
closing_of s = closing (has_crosspoints s.model) s.queues s.ports (turn s.order s.ports s.slot) s.speedup s.slot

pub closing_accounts : (s : Switch) → Sized s.queues → switch_allowed s ≡ true → Balanced (has_crosspoints s.model) s.queues (closing_of s)
closing_accounts s z e =
    closing_balanced s.ports (sound s e).ports.1 (turn s.order s.ports s.slot) s.slot (has_crosspoints s.model) s.queues z s.speedup

-- how a balanced step changes what is held apart from the inputs: by what crossed and was sent, and in the outputs by what came out and was sent
pub balanced_crossed : (t : Bool) {q : Queues} {d : Done} → Balanced t q d → held_out d.queues + held_cross d.queues + of_kind 5 d.events ≡ held_out q + held_cross q + of_kind 3 d.events
unfolding held_out held_cross packets
balanced_crossed true b = omega arith
balanced_crossed false b = omega (arith, (b.apart refl).1)

pub balanced_outmoved : (t : Bool) {q : Queues} {d : Done} → Balanced t q d → held_out d.queues + of_kind 5 d.events ≡ held_out q + of_kind (outmoved_kind t) d.events
unfolding held_out packets outmoved_kind
balanced_outmoved true b = omega arith
balanced_outmoved false b = omega arith

pub balanced_all : (t : Bool) {q : Queues} {d : Done} → Balanced t q d → held_all d.queues + of_kind 5 d.events ≡ held_all q
unfolding held_all held_in held_out held_cross packets
balanced_all t b = balanced_held t b

pub close_keeps : (s : Switch) → Sized s.queues → switch_allowed s ≡ true → s.slot < 8192
    → (switch_allowed (close_step s) ≡ true) × Sized (close_step s).queues
unfolding close_step advanced held
close_keeps s z e low =
    let a = sound s e in
    let t = has_crosspoints s.model in
    let d = closing_of s in
    let b = closing_accounts s z e in
    let all = balanced_all t b in
    let crossed = balanced_crossed t b in
    let outmoved = balanced_outmoved t b in (
      allowed_by_parts _
          (record {
            model = a.model;
            order = a.order;
            ports = a.ports;
            speedup = a.speedup;
            queues = queues_kept s.model s.ports s.queues z a.queues d.queues b.kept;
            few = omega arith;
            slot = omega arith;
            arrived = omega arith;
            crossed = omega arith;
            outmoved = omega arith;
          }),
      kept_sized b.kept z,
    )
