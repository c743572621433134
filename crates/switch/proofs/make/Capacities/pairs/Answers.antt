-- `switch::make::Capacities::pairs` meets its contract.
-- Assumes nothing.
use borrow.Author.Rules.{rules}
use mathlib.Core.Path.{◌≡◌, refl}
use mathlib.Core.Bool.{cond}
use Rattle.switch.specs.declared.make.Capacities.{Capacities}
use Prim.Native.Nat.{ℕ}
use denote.Bor.{Bor}
use Rattle.switch.specs.Allowed.{used_pair}
use Rattle.switch.specs.Making.{capacity_of_pair}
use Rattle.base.proofs.Listed.{from_fn_listed}
use Rattle.switch.proofs.make.Capacities.pairs.Goals as goal

pub returns : goal.returns
returns c =
    let t = c.args.self.now in
    let from = c.args.from in
    from_fn_listed _ (λ k. cond (used_pair t.ports k) (capacity_of_pair t.trace.now t.ports from k) 0)
    (λ (p : Bor Capacities × Bor ℕ). (p.0.now ≡ t) × (p.1.now ≡ from))
    (λ p i y q k r. (search rules, search rules)) _ _ _ (refl, refl) c.from_fn.ensures.items
