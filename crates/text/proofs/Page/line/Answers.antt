-- `text::Page::line` meets its contract.
-- Assumes nothing.
use Rattle.text.specs.Text.{ascii, line}
use Rattle.text.proofs.PageLaws.{puts_then}
use Rattle.text.proofs.Page.line.Goals as goal

pub returns : goal.returns
unfolding line ascii
returns c = puts_then (puts_then (puts_then c.put.ensures c.put-2.ensures) c.decimal.ensures) c.put-3.ensures
