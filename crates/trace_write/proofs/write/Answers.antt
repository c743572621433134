-- `trace_write::write` meets its contract: at each way out the chain of refusals stands at that number.
-- Assumes nothing.
use Rattle.std.proofs.Common.{ap, sym, ◌∙◌, Ok}
use Rattle.layout.specs.declared.Places.{Places}
use Rattle.layout.specs.File.{places_in}
use Rattle.layout.specs.Header.{places_of}
use Rattle.base.proofs.RefusalLaws.{handed_on}
use Rattle.trace_write.proofs.WritingLaws.{header_refused, body_refused, kept, fillable, total_answered, filled}
use Rattle.trace_write.proofs.write.Goals as goal

pub returns-in_err-file-clause-value : goal.returns-in_err-file-clause-value
unfolding places_in
returns-in_err-file-clause-value c = handed_on _ c.from_residual.ensures (header_refused _ _ _ _ _ _ c.in_err-file.ensures.verdict)

pub returns-in_err-file-clause-out_after : goal.returns-in_err-file-clause-out_after
unfolding places_in
returns-in_err-file-clause-out_after c = kept _ _ _ _ _ _ (header_refused _ _ _ _ _ _ c.in_err-file.ensures.verdict)

pub returns-in_err-refusal-clause-value : goal.returns-in_err-refusal-clause-value
returns-in_err-refusal-clause-value c =
    let f = c.in_ok-file in
    rw (sym f.ensures.header) (handed_on _ c.from_residual-in_err-refusal.ensures (body_refused _ _ _ _ _ _ f.file.allowed c.in_err-refusal.ensures))

pub returns-in_err-refusal-clause-out_after : goal.returns-in_err-refusal-clause-out_after
returns-in_err-refusal-clause-out_after c =
    let f = c.in_ok-file in
    rw (sym f.ensures.header) (kept _ _ _ _ _ _ (body_refused _ _ _ _ _ _ f.file.allowed c.in_err-refusal.ensures))

pub fill-requires : goal.fill-requires
fill-requires c =
    let f = fillable _ _ _ _ _ c.in_ok-file.file.allowed _ c.in_ok-refusal.ensures _ c.in_ok-file.file.placed in
    record { capacities = f.of_caps; counts = f.of_counts; ports = f.of_ports; room = f.of_room }

pub returns-clause-value : goal.returns-clause-value
unfolding places_of
returns-clause-value c =
    let f = c.in_ok-file in
    rw (sym f.ensures.header)
    (ap (λ (p : Places). Ok p.total) f.file.placed ∙ total_answered _ _ _ _ _ f.file.allowed _ c.in_ok-refusal.ensures)

pub returns-clause-out_after : goal.returns-clause-out_after
returns-clause-out_after c =
    let f = c.in_ok-file in
    rw (sym f.ensures.header) (c.fill.ensures ∙ filled _ _ _ _ _ f.file.allowed _ c.in_ok-refusal.ensures)
