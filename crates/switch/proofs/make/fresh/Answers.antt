-- `switch::make::fresh` meets its contract.
-- Assumes nothing.
use Rattle.switch.specs.Making.{input_capacities}
use Rattle.switch.proofs.MakingLaws.{fresh_made}
use Rattle.switch.proofs.make.fresh.Goals as goal

pub returns : goal.returns
unfolding input_capacities
returns c = fresh_made c.args.trace.now c.args.header _ _ _ _ _ c.requires.1
    c.pairs.ensures c.outputs.ensures c.crosspoints.ensures c.empty_queues-queues.ensures c.unused.ensures
