-- `cioq::pick` meets its contract: an input that is passed over may take none, and the search finds the lowest.
-- Assumes nothing.
use Rattle.std.proofs.Common.{◌≡◌, ℕ, true, false, sym, subst, ◌∙◌, arith, rules, tests}
use Rattle.std.proofs.lemmas.Iterator.{first_from_Range}
use Rattle.base.proofs.Lowest.{lowest_none, lowest_cong}
use Rattle.queues.specs.Ports.{ports_in}
use Rattle.queues.proofs.EmptyLaws.{row_none}
use Rattle.queues.specs.Found.{FoundBelow}
use Rattle.queues.proofs.FoundLaws.{found_lowest}
use Rattle.cioq.specs.Visit.{may_take, chosen}
use Rattle.cioq.proofs.VisitLaws.{may_not_empty, may_in_row}
use Rattle.cioq.proofs.pick.Goals as goal

pub returns-then-row_empty : goal.returns-then-row_empty
unfolding chosen
returns-then-row_empty c = let a = c.args in
    lowest_none (may_take a.slot.outcap.now a.inlen.now a.outlen.now a.taken.now a.i) (ports_in a.slot)
    (λ m h. may_not_empty a.slot.outcap.now a.inlen.now a.outlen.now a.taken.now a.i m
    (row_none a.inlen.now a.i (sym c.row_empty.ensures ∙ c.if-row_empty.true) m (omega arith)))

pub returns : goal.returns
unfolding chosen
returns c = let a = c.args in
    let f = may_take a.slot.outcap.now a.inlen.now a.outlen.now a.taken.now a.i in
    let e = c.ports_of.ensures in
    let here = may_take a.slot.outcap.now c.row-row.result a.outlen.now a.taken.now 0 in
    subst (λ (n : ℕ). FoundBelow (ports_in a.slot) n c.find.result)
    (lowest_cong here f (ports_in a.slot) (λ k h. may_in_row a.slot.outcap.now a.inlen.now c.row-row.result a.outlen.now a.taken.now a.i k (c.row-row.ensures k (omega arith))))
    (found_lowest here (ports_in a.slot) c.find.result
    (rw e at (first_from_Range _ _ _ _ (λ k. here k ≡ true) (λ k. here k ≡ false) c.find.ensures.ran
    (λ x q k. grind (arith, tests)) (λ x q k. (search rules, grind (arith, tests))))))
