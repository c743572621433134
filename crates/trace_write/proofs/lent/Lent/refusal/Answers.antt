-- `trace_write::lent::Lent::refusal` meets its contract: each test is the definition's, in its order.
-- Assumes nothing.
use Rattle.std.proofs.Common.{refl, ap, ◌∙◌, leb}
use Rattle.base.specs.Refusal.{numbered}
use Rattle.base.proofs.RefusalLaws.{fails, holds, last, refuses, passes, handed_on}
use Rattle.layout.specs.declared.Places.{Places}
use Rattle.layout.specs.Header.{places_of}
use Rattle.trace_write.specs.Writing.{lent_refusal, body_refusal}
use Rattle.trace_write.proofs.lent.Lent.refusal.Goals as goal

pub returns-in_err-unless : goal.returns-in_err-unless
unfolding body_refusal numbered
returns-in_err-unless c = handed_on _ c.from_residual.ensures (fails _ _ _ _ _ 16 _ c.in_err-unless.ensures c.lengths_right.ensures refl)

pub returns-in_err-tables_refusal : goal.returns-in_err-tables_refusal
unfolding body_refusal lent_refusal
returns-in_err-tables_refusal c =
    handed_on _ c.from_residual-in_err-tables_refusal.ensures
    (refuses _ _ _ _ _ c.in_err-tables_refusal.ensures
    ∙ holds _ _ _ _ _ 17 _ c.in_ok-unless.ensures c.lengths_right.ensures)

pub returns : goal.returns
unfolding body_refusal lent_refusal places_of numbered
returns c =
    let total = ap (λ (p : Places). leb p.total c.args.room) c.args.self.now.file.placed in
    last _ _ _ _ 17 c.unless-2.ensures total refl
    ∙ passes _ _ _ _ _ c.in_ok-tables_refusal.ensures
    ∙ holds _ _ _ _ _ 17 _ c.in_ok-unless.ensures c.lengths_right.ensures
