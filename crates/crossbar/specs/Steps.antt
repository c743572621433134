-- One step of each part of a cycle: what `crossings` and `outmoves` do at one more input, and at one more output.
use Rattle.std.specs.Prelude.{ℕ, ◌&&◌, List, length, get_or, ltb}
use Rattle.queues.specs.Queues.{has_room}
use Rattle.queues.specs.Flow.{Flow}
use Rattle.queues.specs.Crossbar.{crossing, crossed_one, outmover, outmoved_one}

-- input i: one of its packets moves to its crosspoint, if one can
unfoldable pub cross_step : ℕ → List ℕ → Flow → ℕ → ℕ → ℕ → Flow
cross_step ports crosscap b slot cycle i =
    let j = crossing ports crosscap b i in
    crossed_one (ltb j ports) b slot cycle i j

-- output j: it takes the packet of the first input in turn that has one for it, unless it is full
unfoldable pub outmove_step : List ℕ → List ℕ → Flow → ℕ → ℕ → ℕ → Flow
outmove_step turn outcap b slot cycle j =
    let u = outmover turn b j in
    outmoved_one (has_room outcap b.to j && ltb u (length turn)) b slot cycle (get_or turn u 0) j
