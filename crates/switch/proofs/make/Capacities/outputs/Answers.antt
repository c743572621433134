-- `switch::make::Capacities::outputs` meets its contract.
-- Assumes nothing.
use borrow.Author.Rules.{rules}
use mathlib.Core.Path.{◌≡◌, refl}
use mathlib.Core.Bool.{cond}
use Rattle.switch.specs.declared.make.Capacities.{Capacities}
use Prim.Native.Nat.{◌+◌, ◌*◌}
use lib.Dec.{ltb}
use denote.Bor.{Bor}
use Rattle.trace.specs.Reading.{capacity}
use Rattle.switch.specs.Making.{output_capacities}
use Rattle.base.proofs.Listed.{from_fn_listed}
use Rattle.switch.proofs.make.Capacities.outputs.Goals as goal

pub returns : goal.returns
unfolding output_capacities
returns c =
    let t = c.args.self.now in
    from_fn_listed _ (λ j. cond (ltb j t.ports) (capacity t.trace.now (t.ports * t.ports + j)) 0)
    (λ (p : record { 0 : Bor Capacities }). p.0.now ≡ t)
    (λ p i y q k r. (search rules, search rules)) _ _ _ refl c.from_fn.ensures.items
