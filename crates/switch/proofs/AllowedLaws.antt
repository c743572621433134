-- What an allowed switch is known to have, by name (refusal 13, turned round).
-- Assumes nothing.
use Prim.Native.Nat.{◌+◌, ◌≤◌}
use mathlib.Core.Path.{◌≡◌}
use mathlib.Core.Bool.{true}
use borrow.Author.Tests.{leb-true, eqb-true}
use Rattle.base.proofs.Below.{both_true}
use Rattle.layout.specs.Header.{model_allowed, order_allowed}
use Rattle.layout.proofs.HeaderLaws.{side_small}
use Rattle.switch.specs.declared.Switch.{Switch}
use Rattle.switch.specs.Switch.{held_out, held_cross, held}
use Rattle.switch.specs.Allowed.{queues_allowed, counts_agree, switch_allowed}

pub record Sound (s : Switch) : Type 0 where
  pub model : model_allowed s.model ≡ true
  pub order : order_allowed s.order ≡ true
  pub ports : (1 ≤ s.ports) × (s.ports ≤ 16)
  pub speedup : (1 ≤ s.speedup) × (s.speedup ≤ 16)
  pub queues : queues_allowed s.model s.ports s.queues ≡ true
  pub few : s.arrived ≤ 4096
  pub slot : s.slot ≤ 8192
  pub arrived : s.arrived ≡ s.dropped + s.sent + held s
  pub crossed : s.crossed ≡ s.sent + held_out s.queues + held_cross s.queues
  pub outmoved : s.outmoved ≡ s.sent + held_out s.queues

pub sound : (s : Switch) → switch_allowed s ≡ true → Sound s
unfolding switch_allowed counts_agree
sound s e =
    let a = both_true _ _ e in
    let b = both_true _ _ a.1 in
    let c = both_true _ _ b.1 in
    let d = both_true _ _ c.1 in
    let f = both_true _ _ d.1 in
    let g = both_true _ _ f.1 in
    let h = both_true _ _ g.1 in
    let i = both_true _ _ h.1 in
    let j = both_true _ _ i.1 in
    record {
      model = a.0;
      order = b.0;
      ports = side_small _ c.0;
      speedup = side_small _ d.0;
      queues = f.0;
      few = leb-true _ _ g.0;
      slot = leb-true _ _ h.0;
      arrived = eqb-true _ _ i.0;
      crossed = eqb-true _ _ j.0;
      outmoved = eqb-true _ _ j.1;
    }
