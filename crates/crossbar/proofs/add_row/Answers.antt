-- `crossbar::add_row` meets its contract.
-- Assumes nothing.
use native.Mathlib.Omega.{arith}
use native.Mathlib.Nat.{not-suc-le-zero}
use mathlib.Core.Path.{◌∙◌}
use lib.ListN.{get_or, length-set}
use lib.Bits.{bit_or}
use Rattle.crossbar.proofs.ColumnsLaws.{said_more}
use Rattle.crossbar.proofs.add_row.Goals as goal

pub loop-j-init : goal.loop-j-init
loop-j-init c = (c.requires.1, λ j h z. (z, λ l. absurd (not-suc-le-zero l)))

pub loop-j-preserved : goal.loop-j-preserved
loop-j-preserved c = let a = c.args in
    let l = c.loop-j in
    let x = get_or a.row.now l.j 0 in (
      length-set l.bits l.j (bit_or (get_or l.bits l.j 0) x) ∙ l.invariant.0,
      said_more a.bits.now l.bits (λ j. get_or a.row.now j 0) l.j (omega arith) l.invariant.1,
    )

pub returns : goal.returns
returns c = let l = c.loop-j in
    (l.invariant.0, λ j h z. let said = l.invariant.1 j h z in (said.0, said.1 (omega arith)))
