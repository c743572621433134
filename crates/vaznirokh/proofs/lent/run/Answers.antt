-- `vaznirokh::lent::run` meets its contract: the length decides, and then the run.
-- Assumes nothing.
use mathlib.Core.Path.{refl, ap, sym, ◌∙◌}
use lib.ListN.{length}
use Rattle.base.specs.Refusal.{refusal_of, refusal_with}
use Rattle.run.specs.Run.{ran_log}
use Rattle.vaznirokh.specs.Library.{count_words, handed, vaz_run, vaz_run_log, vaz_run_counts}
use Rattle.vaznirokh.proofs.LibraryLaws.{right_length, wrong_length, wrong_kept, rest_refused, rest_kept, all_right, all_filled, filled, run_settles}
use Rattle.vaznirokh.proofs.lent.run.Goals as goal

pub returns-in_err-length : goal.returns-in_err-length
unfolding vaz_run vaz_run_log vaz_run_counts refusal_of
returns-in_err-length c =
    let exit = c.from_residual.ensures in
    let wrong = c.in_err-length.ensures in
    record {
      value = wrong_length _ _ _ _ exit wrong;
      log_after = wrong_kept _ _ _ _ exit wrong _ _;
      counts_after = wrong_kept _ _ _ _ exit wrong _ _;
    }

pub returns-in_err-six : goal.returns-in_err-six
unfolding vaz_run vaz_run_log vaz_run_counts refusal_of refusal_with
returns-in_err-six c =
    let a = c.args in
    let exit = c.from_residual-in_err-six.ensures in
    let right = c.in_ok-length.ensures in
    let rest = ap refusal_with c.in_err-six.ensures.value in
    record {
      value = rest_refused _ _ right _ _ exit rest;
      log_after = filled _ _ 0 _ (ran_log a.trace.now a.log.now) a.log.now _ right refl refl (c.run.ensures.log_after ∙ run_settles a.trace.now a.log.now);
      counts_after = rest_kept _ _ right _ _ exit rest _ _;
    }

pub copy_from_slice-requires : goal.copy_from_slice-requires
unfolding refusal_of count_words
copy_from_slice-requires c = right_length 6 c.args.counts.now (sym c.in_ok-length.ensures) ∙ sym (ap length c.count_words.ensures)

pub returns : goal.returns
unfolding vaz_run vaz_run_log vaz_run_counts refusal_of refusal_with handed
returns c =
    let right = c.in_ok-length.ensures in
    let same = c.in_ok-six.ensures.value in
    let rest = ap refusal_with same in
    record {
      value = all_right _ _ right rest;
      log_after = all_filled _ _ right rest _ _ _ c.run.ensures.log_after;
      counts_after = all_filled _ _ right rest _ _ _ (c.copy_from_slice.ensures.after ∙ c.count_words.ensures ∙ ap count_words (ap handed same));
    }
