-- `vaznirokh::lent::drain` meets its contract: the lengths decide, and then the drain.
-- Assumes nothing.
use mathlib.Core.Path.{ap, sym, ◌∙◌}
use lib.ListN.{length}
use Rattle.base.specs.Refusal.{refusal_of, refusal_with}
use Rattle.switch.specs.declared.Switch.{Switch}
use Rattle.switch.specs.Draining.{drain}
use Rattle.image.specs.Image.{image_of}
use Rattle.vaznirokh.specs.Library.{drained_switch, drained_words, vaz_drain, vaz_drain_state, vaz_drain_answer}
use Rattle.vaznirokh.proofs.LibraryLaws.{right_length, first_wrong, second_wrong, wrong_length, wrong_kept, rest_refused, rest_kept, all_right, all_filled}
use Rattle.vaznirokh.proofs.lent.drain.Goals as goal

pub returns-in_err-length : goal.returns-in_err-length
unfolding vaz_drain vaz_drain_state vaz_drain_answer refusal_of
returns-in_err-length c =
    let exit = c.from_residual.ensures in
    let wrong = first_wrong _ _ _ c.in_err-length.ensures in
    record {
      value = wrong_length _ _ _ _ exit wrong;
      state_after = wrong_kept _ _ _ _ exit wrong _ _;
      answer_after = wrong_kept _ _ _ _ exit wrong _ _;
    }

pub returns-in_err-length-2 : goal.returns-in_err-length-2
unfolding vaz_drain vaz_drain_state vaz_drain_answer refusal_of
returns-in_err-length-2 c =
    let exit = c.from_residual-in_err-length-2.ensures in
    let wrong = second_wrong _ _ _ c.in_ok-length.ensures c.in_err-length-2.ensures in
    record {
      value = wrong_length _ _ _ _ exit wrong;
      state_after = wrong_kept _ _ _ _ exit wrong _ _;
      answer_after = wrong_kept _ _ _ _ exit wrong _ _;
    }

pub returns-in_err-drained : goal.returns-in_err-drained
unfolding vaz_drain vaz_drain_state vaz_drain_answer refusal_of refusal_with
returns-in_err-drained c =
    let exit = c.from_residual-in_err-drained.ensures in
    let right = all_right _ _ c.in_ok-length.ensures c.in_ok-length-2.ensures in
    let rest = ap refusal_with (c.in_err-drained.ensures ∙ ap (λ (s : Switch). drain s c.args.limit) c.switch_of.ensures) in
    record {
      value = rest_refused _ _ right _ _ exit rest;
      state_after = rest_kept _ _ right _ _ exit rest _ _;
      answer_after = rest_kept _ _ right _ _ exit rest _ _;
    }

pub store-requires : goal.store-requires
unfolding refusal_of
store-requires c = right_length 1066 c.args.state.now (sym c.in_ok-length.ensures)

pub copy_from_slice-requires : goal.copy_from_slice-requires
unfolding refusal_of
copy_from_slice-requires c = right_length 2 c.args.answer.now (sym c.in_ok-length-2.ensures) ∙ sym (ap length c.drain_words.ensures)

pub returns : goal.returns
unfolding vaz_drain vaz_drain_state vaz_drain_answer refusal_of refusal_with drained_switch drained_words
returns c =
    let right = all_right _ _ c.in_ok-length.ensures c.in_ok-length-2.ensures in
    let same = c.in_ok-drained.ensures ∙ ap (λ (s : Switch). drain s c.args.limit) c.switch_of.ensures in
    let rest = ap refusal_with same in
    record {
      value = all_right _ _ right rest;
      state_after = all_filled _ _ right rest _ _ _ (c.store.ensures ∙ ap image_of (ap drained_switch same));
      answer_after = all_filled _ _ right rest _ _ _ (c.copy_from_slice.ensures.after ∙ c.drain_words.ensures ∙ ap drained_words same);
    }
