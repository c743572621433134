-- `switch::Switch::step` meets its contract.
-- Assumes nothing.
use Prim.Native.Nat.{◌+◌}
use native.Mathlib.Omega.{arith}
use mathlib.Core.Path.{sym, ◌∙◌, ap}
use Rattle.slot_laws.proofs.Balance.{Sized}
use Rattle.switch.specs.Settling.{counted_within}
use Rattle.switch.proofs.AllowedLaws.{sound}
use Rattle.switch.proofs.ClosingLaws.{left_arrived, closed_counts, all_counted}
use Rattle.switch.proofs.Switch.step.Goals as goal

pub queues_closed-requires-clause-few : goal.queues_closed-requires-clause-few
queues_closed-requires-clause-few c = omega (arith, (sound c.args.self.now c.requires.allowed).ports.1)

pub overflow_add-self : goal.overflow_add-self
overflow_add-self c = omega (arith, (sound c.args.self.now c.requires.allowed).slot)

pub returns : goal.returns
returns c = let s = c.args.self.now in
    let l = c.requires.long in
    let sized : Sized s.queues = record { incap = l.0; outcap = l.1; crosscap = l.2; inlen = l.3; outlen = l.4; crosslen = l.5 } in
    c.settle.ensures
    ∙ ap (counted_within s (s.slot + 1)) c.queues_closed.ensures
    ∙ all_counted s (s.slot + 1) _ (left_arrived s sized c.requires.allowed) (sound s c.requires.allowed).few
    ∙ sym (closed_counts s sized c.requires.allowed)
