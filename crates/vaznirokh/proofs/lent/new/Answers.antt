-- `vaznirokh::lent::new` meets its contract: the length decides, and then the trace.
-- Assumes nothing.
use mathlib.Core.Path.{ap, sym, ◌∙◌}
use Rattle.base.specs.Refusal.{refusal_of, refusal_with}
use Rattle.image.specs.Image.{image_of}
use Rattle.vaznirokh.specs.Library.{handed, vaz_new, vaz_new_state}
use Rattle.vaznirokh.proofs.LibraryLaws.{right_length, wrong_length, wrong_kept, rest_refused, rest_kept, all_right, all_filled}
use Rattle.vaznirokh.proofs.lent.new.Goals as goal

pub returns-in_err-length : goal.returns-in_err-length
unfolding vaz_new vaz_new_state refusal_of
returns-in_err-length c =
    record {
      value = wrong_length _ _ _ _ c.from_residual.ensures c.in_err-length.ensures;
      state_after = wrong_kept _ _ _ _ c.from_residual.ensures c.in_err-length.ensures _ _;
    }

pub returns-in_err-s : goal.returns-in_err-s
unfolding vaz_new vaz_new_state refusal_of refusal_with
returns-in_err-s c =
    let rest = ap refusal_with c.in_err-s.ensures in
    record {
      value = rest_refused _ _ c.in_ok-length.ensures _ _ c.from_residual-in_err-s.ensures rest;
      state_after = rest_kept _ _ c.in_ok-length.ensures _ _ c.from_residual-in_err-s.ensures rest _ _;
    }

pub store-requires : goal.store-requires
unfolding refusal_of
store-requires c = right_length 1066 c.args.state.now (sym c.in_ok-length.ensures)

pub returns : goal.returns
unfolding vaz_new vaz_new_state refusal_of refusal_with handed
returns c =
    let rest = ap refusal_with c.in_ok-s.ensures in
    record {
      value = all_right _ _ c.in_ok-length.ensures rest;
      state_after = all_filled _ _ c.in_ok-length.ensures rest _ _ _ (c.store.ensures ∙ ap image_of (ap handed c.in_ok-s.ensures));
    }
