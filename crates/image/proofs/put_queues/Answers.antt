-- `image::put_queues` meets its contract: the capacities and then the lengths.
-- Assumes nothing.
use Rattle.std.proofs.Common.{rules}
use Rattle.image.proofs.ImageLaws.{three_stored, queues_stored}
use Rattle.image.proofs.put_queues.Goals as goal

pub returns : goal.returns
returns c =
    let l = c.args.state.now in
    let q = c.args.q.now in
    let capacities = three_stored l _ _ _ 10 q.incap q.outcap q.crosscap c.put.ensures c.put-2.ensures c.put-3.ensures (search rules) (search rules) in
    let lengths = three_stored c.put-3.new.state _ _ _ 538 q.inlen q.outlen q.crosslen c.put-4.ensures c.put-5.ensures c.put-6.ensures (search rules) (search rules) in
    queues_stored l _ _ q capacities lengths (search rules) (search rules) (search rules)
