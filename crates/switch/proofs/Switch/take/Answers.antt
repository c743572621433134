-- `switch::Switch::take` meets its contract: what was dropped arrived.
-- Assumes nothing.
use native.Mathlib.Omega.{arith}
use Rattle.switch.proofs.AllowedLaws.{sound}
use Rattle.switch.proofs.StepsLaws.{more_may_arrive}
use Rattle.switch.proofs.Switch.take.Goals as goal

pub overflow_add-result : goal.overflow_add-result
overflow_add-result c =
    let m = more_may_arrive c.args.self c.args.input c.args.output c.requires in
    omega (arith, m.3, (sound c.args.self m.0).arrived)
