-- `vaznirokh::lent::write` meets its contract: the header's length decides, and then the writer.
-- Assumes nothing.
use mathlib.Core.Path.{refl, ap, ◌∙◌}
use Rattle.layout.specs.declared.Header.{Header}
use Rattle.base.specs.Refusal.{refusal_of}
use Rattle.trace_write.specs.Writing.{written, written_out}
use Rattle.vaznirokh.specs.Library.{header_of_words, vaz_write, vaz_write_out}
use Rattle.vaznirokh.proofs.LibraryLaws.{wrong_length, wrong_kept, rest_refused, all_right, all_filled, filled, writer_settles}
use Rattle.vaznirokh.proofs.lent.write.Goals as goal

pub returns-in_err-length : goal.returns-in_err-length
unfolding vaz_write vaz_write_out refusal_of
returns-in_err-length c =
    let exit = c.from_residual.ensures in
    let wrong = c.in_err-length.ensures in
    record { value = wrong_length _ _ _ _ exit wrong; out_after = wrong_kept _ _ _ _ exit wrong _ _ }

pub returns-in_err-write : goal.returns-in_err-write
unfolding vaz_write vaz_write_out refusal_of
returns-in_err-write c =
    let a = c.args in
    let right = c.in_ok-length.ensures in
    let rest = ap refusal_of (c.in_err-write.ensures.value ∙ ap (λ (h : Header). written h a.capacities.now a.slot_counts.now a.arrivals.now a.out.now) c.header.ensures) in
    let left = c.write.ensures.out_after ∙ ap (λ (h : Header). written_out h a.capacities.now a.slot_counts.now a.arrivals.now a.out.now) c.header.ensures in
    let h = header_of_words a.words.now in
    record {
      value = rest_refused _ _ right _ _ c.from_residual-in_err-write.ensures rest;
      out_after = filled _ _ 0 _ (written_out h a.capacities.now a.slot_counts.now a.arrivals.now a.out.now) a.out.now _ right refl refl
          (left ∙ writer_settles h a.capacities.now a.slot_counts.now a.arrivals.now a.out.now);
    }

pub returns : goal.returns
unfolding vaz_write vaz_write_out refusal_of
returns c =
    let a = c.args in
    let right = c.in_ok-length.ensures in
    let rest = ap refusal_of (c.in_ok-write.ensures.value ∙ ap (λ (h : Header). written h a.capacities.now a.slot_counts.now a.arrivals.now a.out.now) c.header.ensures) in
    let left = c.write.ensures.out_after ∙ ap (λ (h : Header). written_out h a.capacities.now a.slot_counts.now a.arrivals.now a.out.now) c.header.ensures in
    record { value = all_right _ _ right rest; out_after = all_filled _ _ right rest _ _ _ left }
