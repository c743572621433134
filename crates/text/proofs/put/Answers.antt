-- `text::put` meets its contract.
-- Assumes nothing.
use Rattle.std.proofs.Common.{rules, arith}
use Rattle.text.proofs.WrittenLaws.{past, copied, fit_each}
use Rattle.text.proofs.put.Goals as goal

pub returns-then-page-at : goal.returns-then-page-at
returns-then-page-at c = past _ _ _ c.if-page-at.true

pub returns : goal.returns
returns c =
    copied _ _ _ c.min-n.result _ _ (fit_each _ c.type_inv.bytes) c.if-page-at.false c.min-n.ensures (omega arith) (search rules)
