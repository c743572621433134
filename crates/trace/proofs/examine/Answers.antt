-- `trace::examine` meets its contract: each test is the definition's, in its order.
-- Assumes nothing.
use mathlib.Core.Path.{◌≡◌, refl, ap, ◌∙◌}
use Rattle.std.specs.Prelude.{Ok}
use Rattle.base.specs.Refusal.{numbered}
use Rattle.base.proofs.RefusalLaws.{fails, holds, refuses, refused, passes, accepted, handed_on}
use Rattle.layout.specs.File.{places_in}
use Rattle.layout.specs.Header.{places_of, laid_out}
use Rattle.trace.specs.Reading.{header_of, body_refusal, reading, verdict}
use Rattle.trace.proofs.examine.Goals as goal

pub returns-in_err-unless : goal.returns-in_err-unless
unfolding verdict reading numbered
returns-in_err-unless c = handed_on _ c.from_residual.ensures (fails _ _ _ _ _ 0 _ c.in_err-unless.ensures refl refl)

pub returns-in_err-file : goal.returns-in_err-file
unfolding verdict reading laid_out places_in numbered
returns-in_err-file c =
    let s = c.args.trace.now in
    handed_on _ c.from_residual-in_err-file.ensures
    (refuses (places_of (header_of s)) (header_of s) _ _ (body_refusal s (header_of s)) (rw c.header.ensures at c.in_err-file.ensures.verdict)
    ∙ holds _ _ _ _ _ 1 _ c.in_ok-unless.ensures refl)

pub returns-in_err-body_refusal : goal.returns-in_err-body_refusal
unfolding verdict reading laid_out places_in numbered
returns-in_err-body_refusal c =
    let s = c.args.trace.now in
    let header : c.in_ok-file.file.header ≡ header_of s = c.in_ok-file.ensures.header ∙ c.header.ensures in
    handed_on _ c.from_residual-in_err-body_refusal.ensures
    (refused _ (header_of s) _ (body_refusal s (header_of s)) (rw header at c.in_err-body_refusal.ensures)
    ∙ passes (places_of (header_of s)) _ _ _ _ (rw c.header.ensures at c.in_ok-file.ensures.verdict)
    ∙ holds _ _ _ _ _ 1 _ c.in_ok-unless.ensures refl)

pub returns : goal.returns
unfolding verdict reading laid_out places_in numbered
returns c =
    let s = c.args.trace.now in
    let header : c.in_ok-file.file.header ≡ header_of s = c.in_ok-file.ensures.header ∙ c.header.ensures in
    ap Ok header
    ∙ accepted _ _ (header_of s) (body_refusal s (header_of s)) (rw header at c.in_ok-body_refusal.ensures)
    ∙ passes (places_of (header_of s)) _ _ _ _ (rw c.header.ensures at c.in_ok-file.ensures.verdict)
    ∙ holds _ _ _ _ _ 1 _ c.in_ok-unless.ensures refl
