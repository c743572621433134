-- `layout::tables_refusal` meets its contract: each table is judged in the definition's order.
-- Assumes nothing.
use Rattle.std.proofs.Common.{◌≡◌, ℕ, Bool, ◌∙◌, refl, ap, arith, eqb}
use Rattle.base.specs.Refusal.{numbered}
use Rattle.base.specs.Below.{all_below}
use Rattle.base.proofs.RefusalLaws.{fails, holds, last, handed_on}
use Rattle.layout.specs.Header.{places_of}
use Rattle.layout.specs.Tables.{tables_refusal, capacity_allowed, capacities_allowed, counts_add_up, ports_below}
use Rattle.layout.proofs.HeaderLaws.{allowed}
use Rattle.layout.specs.declared.Header.{Header}
use Rattle.layout.specs.declared.Places.{Places}
use Rattle.layout.proofs.file.tables_refusal.Goals as goal

-- the capacities are judged as far as the header says
nine : (h : Header) (p : Places) (r : Bool) (cap : ℕ → ℕ) → p ≡ places_of h → r ≡ all_below (λ k. capacity_allowed (cap k)) p.capacities → r ≡ capacities_allowed h cap
unfolding capacities_allowed places_of
nine h p r cap e f = f ∙ ap (λ (q : Places). all_below (λ k. capacity_allowed (cap k)) q.capacities) e

pub overflow_cast-header : goal.overflow_cast-header
overflow_cast-header g c = omega (arith, (allowed c.args.file.header c.args.file.allowed).slots)

pub returns-in_err-unless : goal.returns-in_err-unless
unfolding tables_refusal numbered
returns-in_err-unless g c =
    handed_on _ c.from_residual.ensures
    (fails _ _ _ _ _ 8 _ c.in_err-unless.ensures (nine _ _ _ _ c.args.file.placed c.capacities_allowed.ensures) refl)

pub returns-in_err-unless-2 : goal.returns-in_err-unless-2
unfolding tables_refusal counts_add_up numbered
returns-in_err-unless-2 g c =
    handed_on _ c.from_residual-in_err-unless-2.ensures
    (fails _ _ _ _ _ 9 _ c.in_err-unless-2.ensures (ap (λ (n : ℕ). eqb n c.args.file.header.arrivals) c.sum.ensures) refl
    ∙ holds _ _ _ _ _ 9 _ c.in_ok-unless.ensures (nine _ _ _ _ c.args.file.placed c.capacities_allowed.ensures))

pub returns : goal.returns
unfolding tables_refusal counts_add_up ports_below numbered
returns g c =
    last _ _ _ _ 10 c.unless-3.ensures c.ports_below.ensures refl
    ∙ holds _ _ _ _ _ 10 _ c.in_ok-unless-2.ensures (ap (λ (n : ℕ). eqb n c.args.file.header.arrivals) c.sum.ensures)
    ∙ holds _ _ _ _ _ 9 _ c.in_ok-unless.ensures (nine _ _ _ _ c.args.file.placed c.capacities_allowed.ensures)
