use Rattle.std.proofs.Common.{rules, tests, ltb}
use Rattle.base.proofs.Below.{all_from_range}
use Rattle.layout.proofs.file.ports_below.Goals as goal

pub returns : goal.returns
returns g c =
    let a = c.args in
    all_from_range (λ b. ltb (g.T.Tables.ports a.tables.now b) a.ports) a.n _ _ _ c.all.ensures.ran (λ x b q k. search (rules, tests))
