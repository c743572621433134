-- `crossbar::crossing` meets its contract: of an input that is passed over none can move, and the search finds the lowest.
-- Assumes nothing.
use Rattle.std.proofs.Common.{ℕ, ◌≡◌, Bool, true, false, ◌&&◌, sym, ◌∙◌, arith, rules, tests}
use Rattle.std.proofs.lemmas.Iterator.{first_from_Range}
use Rattle.base.proofs.Lowest.{lowest_none}
use Rattle.queues.specs.Ports.{ports_in}
use Rattle.queues.specs.Queues.{place, waits, has_room}
use Rattle.queues.specs.Flow.{still}
use Rattle.queues.specs.Crossbar.{crossing}
use Rattle.queues.proofs.EmptyLaws.{row_none}
use Rattle.queues.proofs.FoundLaws.{found_lowest}
use Rattle.crossbar.proofs.crossing.Goals as goal

pub returns-then-row_empty : goal.returns-then-row_empty
unfolding crossing still
returns-then-row_empty c = let a = c.args in
    lowest_none (λ j. waits a.inlen.now (place a.i j) && has_room a.slot.crosscap.now a.crosslen.now (place a.i j)) (ports_in a.slot)
    (λ m h. rw (row_none a.inlen.now a.i (sym c.row_empty.ensures ∙ c.if-row_empty.true) m (omega arith)))

pub returns : goal.returns
unfolding crossing still
returns c = let a = c.args in
    let f : ℕ → Bool = λ j. waits a.inlen.now (place a.i j) && has_room a.slot.crosscap.now a.crosslen.now (place a.i j) in
    let e = c.ports_of.ensures in
    found_lowest f (ports_in a.slot) c.find.result
    (rw e at (first_from_Range _ _ _ _ (λ k. f k ≡ true) (λ k. f k ≡ false) c.find.ensures.ran
    (λ x q k. grind (arith, tests)) (λ x q k. (search rules, grind (arith, tests)))))
