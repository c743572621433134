-- `layout::capacity_count` meets its contract: 16 ports make at most 528 capacities.
-- Assumes nothing.
use native.Mathlib.Omega.{arith}
use borrow.Author.Tests.{eq-eqb, ne_eqb}
use Rattle.layout.specs.Header.{capacity_count, has_crosspoints}
use Rattle.layout.proofs.HeaderLaws.{pairs}
use Rattle.layout.proofs.capacity_count.Goals as goal

pub overflow_mul-result : goal.overflow_mul-result
overflow_mul-result c = omega (arith, pairs c.args.h c.requires)

pub overflow_add-result : goal.overflow_add-result
overflow_add-result c = omega (arith, pairs c.args.h c.requires)

pub overflow_mul-result-then-h-eq2 : goal.overflow_mul-result-then-h-eq2
overflow_mul-result-then-h-eq2 c = omega (arith, pairs c.args.h c.requires)

pub overflow_add-result-then-h-eq2 : goal.overflow_add-result-then-h-eq2
overflow_add-result-then-h-eq2 c = omega (arith, pairs c.args.h c.requires)

pub returns-then-h-eq2 : goal.returns-then-h-eq2
unfolding capacity_count has_crosspoints
returns-then-h-eq2 c = simp (eq-eqb _ _ c.if-h-eq2.true) (omega (arith, pairs c.args.h c.requires))

pub overflow_mul-result-2 : goal.overflow_mul-result-2
overflow_mul-result-2 c = omega (arith, pairs c.args.h c.requires)

pub overflow_add-result-2 : goal.overflow_add-result-2
overflow_add-result-2 c = omega (arith, pairs c.args.h c.requires)

pub returns : goal.returns
unfolding capacity_count has_crosspoints
returns c = simp (ne_eqb _ _ c.if-h-eq2.false) (omega (arith, pairs c.args.h c.requires))
