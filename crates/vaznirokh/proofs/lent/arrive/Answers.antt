-- `vaznirokh::lent::arrive` meets its contract: the lengths decide, and then the arrival.
-- Assumes nothing.
use mathlib.Core.Path.{ap, sym, ◌∙◌}
use native.Mathlib.Omega.{arith}
use Rattle.base.specs.Refusal.{refusal_of, refusal_with}
use Rattle.switch.specs.declared.Switch.{Switch}
use Rattle.switch.specs.Steps.{arrive}
use Rattle.image.specs.Image.{image_of}
use Rattle.vaznirokh.specs.Library.{arrived_switch, arrived_word, vaz_arrive, vaz_arrive_state, vaz_arrive_answer}
use Rattle.vaznirokh.proofs.LibraryLaws.{right_length, first_wrong, second_wrong, wrong_length, wrong_kept, rest_refused, rest_kept, all_right, all_filled, one_word}
use Rattle.vaznirokh.proofs.lent.arrive.Goals as goal

pub returns-in_err-length : goal.returns-in_err-length
unfolding vaz_arrive vaz_arrive_state vaz_arrive_answer refusal_of
returns-in_err-length c =
    let exit = c.from_residual.ensures in
    let wrong = first_wrong _ _ _ c.in_err-length.ensures in
    record {
      value = wrong_length _ _ _ _ exit wrong;
      state_after = wrong_kept _ _ _ _ exit wrong _ _;
      answer_after = wrong_kept _ _ _ _ exit wrong _ _;
    }

pub returns-in_err-length-2 : goal.returns-in_err-length-2
unfolding vaz_arrive vaz_arrive_state vaz_arrive_answer refusal_of
returns-in_err-length-2 c =
    let exit = c.from_residual-in_err-length-2.ensures in
    let wrong = second_wrong _ _ _ c.in_ok-length.ensures c.in_err-length-2.ensures in
    record {
      value = wrong_length _ _ _ _ exit wrong;
      state_after = wrong_kept _ _ _ _ exit wrong _ _;
      answer_after = wrong_kept _ _ _ _ exit wrong _ _;
    }

pub returns-in_err-arrived : goal.returns-in_err-arrived
unfolding vaz_arrive vaz_arrive_state vaz_arrive_answer refusal_of refusal_with
returns-in_err-arrived c =
    let exit = c.from_residual-in_err-arrived.ensures in
    let right = all_right _ _ c.in_ok-length.ensures c.in_ok-length-2.ensures in
    let rest = ap refusal_with (c.in_err-arrived.ensures ∙ ap (λ (s : Switch). arrive s c.args.input c.args.output) c.switch_of.ensures) in
    record {
      value = rest_refused _ _ right _ _ exit rest;
      state_after = rest_kept _ _ right _ _ exit rest _ _;
      answer_after = rest_kept _ _ right _ _ exit rest _ _;
    }

pub store-requires : goal.store-requires
unfolding refusal_of
store-requires c = right_length 1066 c.args.state.now (sym c.in_ok-length.ensures)

pub bounds-answer-0 : goal.bounds-answer-0
unfolding refusal_of
bounds-answer-0 c = let l = right_length 1 c.args.answer.now (sym c.in_ok-length-2.ensures) in omega arith

pub returns : goal.returns
unfolding vaz_arrive vaz_arrive_state vaz_arrive_answer refusal_of refusal_with arrived_switch arrived_word
returns c =
    let right = all_right _ _ c.in_ok-length.ensures c.in_ok-length-2.ensures in
    let same = c.in_ok-arrived.ensures ∙ ap (λ (s : Switch). arrive s c.args.input c.args.output) c.switch_of.ensures in
    let rest = ap refusal_with same in
    record {
      value = all_right _ _ right rest;
      state_after = all_filled _ _ right rest _ _ _ (c.store.ensures ∙ ap image_of (ap arrived_switch same));
      answer_after = all_filled _ _ right rest _ _ _ (one_word c.args.answer.now _ _ (right_length 1 c.args.answer.now (sym c.in_ok-length-2.ensures)) (c.taken_word.ensures ∙ ap arrived_word same));
    }
