-- `layout::header_refusal` meets its contract: each test is the definition's, in its order.
-- Assumes nothing.
use mathlib.Core.Path.{refl, ◌∙◌}
use Rattle.base.specs.Refusal.{numbered}
use Rattle.base.proofs.RefusalLaws.{fails, holds, last, handed_on}
use Rattle.layout.specs.Header.{header_refusal, order_allowed, count_allowed}
use Rattle.layout.proofs.header_refusal.Goals as goal

pub returns-in_err-unless : goal.returns-in_err-unless
unfolding header_refusal order_allowed count_allowed numbered
returns-in_err-unless c =
    handed_on _ c.from_residual.ensures
    (fails _ _ _ _ _ 1 _ c.in_err-unless.ensures c.model_allowed.ensures refl)

pub returns-in_err-unless-2 : goal.returns-in_err-unless-2
unfolding header_refusal order_allowed count_allowed numbered
returns-in_err-unless-2 c =
    handed_on _ c.from_residual-in_err-unless-2.ensures
    (fails _ _ _ _ _ 2 _ c.in_err-unless-2.ensures refl refl
    ∙ holds _ _ _ _ _ 2 _ c.in_ok-unless.ensures c.model_allowed.ensures)

pub returns-in_err-unless-3 : goal.returns-in_err-unless-3
unfolding header_refusal order_allowed count_allowed numbered
returns-in_err-unless-3 c =
    handed_on _ c.from_residual-in_err-unless-3.ensures
    (fails _ _ _ _ _ 3 _ c.in_err-unless-3.ensures c.side_allowed.ensures refl
    ∙ holds _ _ _ _ _ 3 _ c.in_ok-unless-2.ensures refl
    ∙ holds _ _ _ _ _ 2 _ c.in_ok-unless.ensures c.model_allowed.ensures)

pub returns-in_err-unless-4 : goal.returns-in_err-unless-4
unfolding header_refusal order_allowed count_allowed numbered
returns-in_err-unless-4 c =
    handed_on _ c.from_residual-in_err-unless-4.ensures
    (fails _ _ _ _ _ 4 _ c.in_err-unless-4.ensures c.side_allowed-2.ensures refl
    ∙ holds _ _ _ _ _ 4 _ c.in_ok-unless-3.ensures c.side_allowed.ensures
    ∙ holds _ _ _ _ _ 3 _ c.in_ok-unless-2.ensures refl
    ∙ holds _ _ _ _ _ 2 _ c.in_ok-unless.ensures c.model_allowed.ensures)

pub returns-in_err-unless-5 : goal.returns-in_err-unless-5
unfolding header_refusal order_allowed count_allowed numbered
returns-in_err-unless-5 c =
    handed_on _ c.from_residual-in_err-unless-5.ensures
    (fails _ _ _ _ _ 5 _ c.in_err-unless-5.ensures refl refl
    ∙ holds _ _ _ _ _ 5 _ c.in_ok-unless-4.ensures c.side_allowed-2.ensures
    ∙ holds _ _ _ _ _ 4 _ c.in_ok-unless-3.ensures c.side_allowed.ensures
    ∙ holds _ _ _ _ _ 3 _ c.in_ok-unless-2.ensures refl
    ∙ holds _ _ _ _ _ 2 _ c.in_ok-unless.ensures c.model_allowed.ensures)

pub returns : goal.returns
unfolding header_refusal order_allowed count_allowed numbered
returns c =
    last _ _ _ _ 6 c.unless-6.ensures refl refl
    ∙ holds _ _ _ _ _ 6 _ c.in_ok-unless-5.ensures refl
    ∙ holds _ _ _ _ _ 5 _ c.in_ok-unless-4.ensures c.side_allowed-2.ensures
    ∙ holds _ _ _ _ _ 4 _ c.in_ok-unless-3.ensures c.side_allowed.ensures
    ∙ holds _ _ _ _ _ 3 _ c.in_ok-unless-2.ensures refl
    ∙ holds _ _ _ _ _ 2 _ c.in_ok-unless.ensures c.model_allowed.ensures
