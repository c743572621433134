-- `refusal_text::refusal_line` meets its contract.
-- Assumes nothing.
use Rattle.std.proofs.Common.{rules}
use Rattle.text.specs.Text.{ascii}
use Rattle.text.proofs.WrittenLaws.{then, same}
use Rattle.refusal_text.specs.Refusals.{refusal_line}
use Rattle.refusal_text.proofs.refusal_line.Goals as goal

pub returns : goal.returns
unfolding refusal_line ascii
returns c =
    let words = same c.words.ensures c.put-3.ensures.written in
    let w = then (then (then (then c.put.ensures.written c.decimal.ensures.written) c.put-2.ensures.written) words) c.put-4.ensures.written in
    search (rules, w)
