-- `trace::body_refusal` meets its contract: the tables are judged where they stand.
-- Assumes nothing.
use Prim.Native.Nat.{ℕ}
use mathlib.Core.Path.{refl, sym, ◌∙◌, ap}
use Rattle.base.specs.Refusal.{numbered, judged}
use Rattle.base.proofs.RefusalLaws.{fails, holds, test_holds, handed_on}
use Rattle.trace.specs.Reading.{places_right, body_refusal}
use Rattle.trace.proofs.ReadingLaws.{judged_in_place}
use Rattle.trace.proofs.body_refusal.Goals as goal

pub returns-in_err-unless : goal.returns-in_err-unless
unfolding body_refusal numbered
returns-in_err-unless c =
    let f = c.args.file in
    handed_on _ c.from_residual.ensures
    (fails _ _ _ _ _ 7 _ c.in_err-unless.ensures (c.right.ensures ∙ ap (places_right c.args.trace.now) f.placed) refl)

pub returns : goal.returns
unfolding body_refusal numbered
returns c =
    let f = c.args.file in
    let right = sym c.right.ensures ∙ test_holds _ _ _ c.in_ok-unless.ensures in
    c.tables_refusal.ensures
    ∙ ap (λ (n : ℕ). judged n (tt {0})) (judged_in_place c.args.trace.now f.header f.places right)
    ∙ holds _ _ _ _ _ 8 _ c.in_ok-unless.ensures (c.right.ensures ∙ ap (places_right c.args.trace.now) f.placed)
