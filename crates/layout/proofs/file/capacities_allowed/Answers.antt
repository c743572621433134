use Rattle.std.proofs.Common.{rules, tests}
use Rattle.base.proofs.Below.{all_from_range}
use Rattle.layout.specs.Tables.{capacity_allowed}
use Rattle.layout.proofs.file.capacities_allowed.Goals as goal

pub returns : goal.returns
returns g c =
    let a = c.args in
    all_from_range (λ k. capacity_allowed (g.T.Tables.capacities a.tables.now k)) a.n _ _ _ c.all.ensures.ran (λ x b q k. search (rules, tests))
