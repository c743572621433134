-- `greedy_bound::limit` meets its contract: a switch that is not refused has small counts, and what it has moved to output queues and not sent stands in them.
-- Assumes nothing.
use native.Mathlib.Omega.{arith}
use mathlib.Core.Path.{refl, ap, ◌∙◌}
use Rattle.std.specs.Prelude.{Ok}
use Rattle.base.specs.Refusal.{numbered}
use Rattle.base.proofs.RefusalLaws.{refuses, clear, passes, refused, last, handed_on}
use Rattle.run.proofs.AnswersLaws.{given, test_holds}
use Rattle.greedy_bound.specs.Answer.{limit_refusal, limit_answer}
use Rattle.greedy_bound.specs.Rivalry.{limit_of}
use Rattle.greedy_bound.proofs.LimitLaws.{none_refused, counted}
use Rattle.greedy_bound.proofs.limit.Goals as goal

pub returns-in_err-refusal : goal.returns-in_err-refusal
unfolding limit_answer limit_refusal
returns-in_err-refusal c = handed_on _ c.from_residual.ensures (refuses _ (limit_of c.args.s) _ _ _ c.in_err-refusal.ensures)

pub returns-in_err-unless : goal.returns-in_err-unless
unfolding limit_answer limit_refusal numbered
returns-in_err-unless c =
    handed_on _ c.from_residual-in_err-unless.ensures
    (refused _ (limit_of c.args.s) _ _ (last _ _ _ _ 1 c.in_err-unless.ensures refl refl)
    ∙ passes _ _ (limit_of c.args.s) _ _ c.in_ok-refusal.ensures)

pub overflow_sub-standing : goal.overflow_sub-standing
overflow_sub-standing c = (counted c.args.s (none_refused c.args.s (clear _ _ _ c.in_ok-refusal.ensures).0 (test_holds _ _ _ c.in_ok-unless.ensures))).moved

pub overflow_mul-result : goal.overflow_mul-result
overflow_mul-result c = omega (arith, counted c.args.s (none_refused c.args.s (clear _ _ _ c.in_ok-refusal.ensures).0 (test_holds _ _ _ c.in_ok-unless.ensures)))

pub overflow_mul-result-2 : goal.overflow_mul-result-2
overflow_mul-result-2 c = omega (arith, counted c.args.s (none_refused c.args.s (clear _ _ _ c.in_ok-refusal.ensures).0 (test_holds _ _ _ c.in_ok-unless.ensures)))

pub overflow_add-result : goal.overflow_add-result
overflow_add-result c = omega (arith, counted c.args.s (none_refused c.args.s (clear _ _ _ c.in_ok-refusal.ensures).0 (test_holds _ _ _ c.in_ok-unless.ensures)))

pub returns : goal.returns
unfolding limit_answer
returns c =
    let none = none_refused c.args.s (clear _ _ _ c.in_ok-refusal.ensures).0 (test_holds _ _ _ c.in_ok-unless.ensures) in
    ap Ok (counted c.args.s none).limit ∙ given (limit_of c.args.s) _ none
