-- One closing. After it the counts are settled by the queues alone: arrived and dropped stay, so sent is what arrived and was neither dropped
-- nor is held, and the other two are what was sent and is held further on. And a closing that finds a packet anywhere sends one (progress,
-- of the slot laws), so what is held falls by at least one, until it is nothing.
-- Assumes nothing.
use Prim.Native.Nat.{ℕ, ◌+◌, ◌-◌, ◌≤◌, ◌<◌}
use native.Mathlib.Omega.{arith}
use Rattle.std.proofs.Math.Nat.{min-eq_left}
use Rattle.queues.specs.declared.Queues.{Queues}
use mathlib.Core.Path.{◌≡◌, ap₂}
use mathlib.Core.Logic.{⊎_elim}
use mathlib.Core.Bool.{true}
use Rattle.base.proofs.Order.{le_or_lt}
use Rattle.layout.specs.Header.{has_crosspoints}
use Rattle.queues.specs.Events.{of_kind}
use Rattle.queues.specs.Turn.{turn}
use Rattle.slot_laws.proofs.Balance.{Sized}
use Rattle.slot_laws.proofs.TurnLaws.{turn_visits}
use Rattle.slot_laws.proofs.ProgressLaws.{Served, closing_sends}
use Rattle.switch.specs.declared.Switch.{Switch}
use Rattle.switch.specs.Switch.{packets, held_in, held_out, held_cross, held_all, held, outmoved_kind, advanced}
use Rattle.switch.specs.Allowed.{switch_allowed}
use Rattle.switch.specs.Settling.{sent_of, outmoved_of, crossed_of, counted_as, counted, counted_within, settled}
use Rattle.switch.specs.Steps.{close_step}
use Rattle.switch.proofs.AllowedLaws.{sound}
use Rattle.switch.proofs.QueuesKept.{queues_served}
use Rattle.switch.proofs.KeepsLaws.{closing_of, closing_accounts, balanced_all, balanced_crossed, balanced_outmoved}

-- where no more is held than came in, every count fits 32 bits
pub all_counted : (s : Switch) (slot : ℕ) (q : Queues) → held_all q + s.dropped ≤ s.arrived → s.arrived ≤ 4096 → counted_within s slot q ≡ counted s slot q
unfolding held_all
all_counted s slot q h a =
    let crossed : crossed_of s q ≤ 4294967295 = omega arith in
    let outmoved : outmoved_of s q ≤ 4294967295 = omega arith in
    ap₂ (counted_as s slot q) (min-eq_left crossed) (min-eq_left outmoved)

module _ (s : Switch) (z : Sized s.queues) (e : switch_allowed s ≡ true) where
  -- what is left was not dropped
  pub left_arrived : held_all (closing_of s).queues + s.dropped ≤ s.arrived
  unfolding held
  left_arrived =
      let a = sound s e in
      let all = balanced_all (has_crosspoints s.model) (closing_accounts s z e) in
      omega arith

  pub closed_counts : close_step s ≡ settled s (closing_of s).queues
  unfolding close_step advanced held
  closed_counts =
      let a = sound s e in
      let t = has_crosspoints s.model in
      let d = closing_of s in
      let b = closing_accounts s z e in
      let all = balanced_all t b in
      let crossed = balanced_crossed t b in
      let outmoved = balanced_outmoved t b in
      let arrived-same : s.arrived + (of_kind 1 d.events + of_kind 2 d.events) ≡ s.arrived = omega arith in
      let dropped-same : s.dropped + of_kind 2 d.events ≡ s.dropped = omega arith in
      let sent_is : s.sent + of_kind 5 d.events ≡ sent_of s d.queues = omega arith in
      let outmoved-is : s.outmoved + of_kind (outmoved_kind t) d.events ≡ outmoved_of s d.queues = omega arith in
      let crossed-is : s.crossed + of_kind 3 d.events ≡ crossed_of s d.queues = omega arith in
      λ i.
      record {
        model = s.model;
        order = s.order;
        ports = s.ports;
        speedup = s.speedup;
        slot = s.slot + 1;
        arrived = arrived-same i;
        dropped = dropped-same i;
        crossed = crossed-is i;
        outmoved = outmoved-is i;
        sent = sent_is i;
        queues = d.queues;
      }

  -- every input of an allowed switch is served
  pub switch_served : Served (has_crosspoints s.model) s.queues s.ports (turn s.order s.ports s.slot)
  switch_served =
      let a = sound s e in
      queues_served s.model s.ports s.queues z a.queues (turn s.order s.ports s.slot) a.ports.1
      (turn_visits s.order s.ports s.slot)

  pub closing_progress : 1 ≤ held s → 1 ≤ of_kind 5 (closing_of s).events
  unfolding held held_all held_in held_out held_cross packets
  closing_progress some =
      closing_sends s.queues s.ports (turn s.order s.ports s.slot) s.slot (has_crosspoints s.model) switch_served some s.speedup
      (sound s e).speedup.0

  -- one packet fewer is held, or more than one, until there is none
  pub held_falls : held (close_step s) ≤ held s - 1
  unfolding held close_step advanced
  held_falls =
      let all = balanced_all (has_crosspoints s.model) (closing_accounts s z e) in
      ⊎_elim
      (λ (some : 1 ≤ held s). let sends = closing_progress some in omega arith)
      (λ (none : held s < 1). omega arith)
      (le_or_lt 1 (held s))
