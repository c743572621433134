-- The two parts of a cycle of the buffered crossbar (document 01, "One slot"; 001, section 3.1, the scheme it calls CGU).
use Rattle.std.specs.Prelude.{ℕ, zero, suc, Bool, true, false, ◌&&◌, List, length, get_or, ltb}
use Rattle.base.specs.Below.{lowest}
use Rattle.queues.specs.Queues.{place, waits, has_room}
use Rattle.queues.specs.Events.{crossed_at, outmoved_at}
use Rattle.queues.specs.Flow.{Flow, still, flowed}

-- the lowest output whose input queue is not empty and whose crosspoint is not full, or N where there is no such output
unfoldable pub crossing : ℕ → List ℕ → Flow → ℕ → ℕ
crossing ports crosscap b i = lowest (λ j. waits b.from (place i j) && has_room crosscap b.to (place i j)) ports

unfoldable pub crossed_one : Bool → Flow → ℕ → ℕ → ℕ → ℕ → Flow
crossed_one true b slot cycle i j = flowed b (place i j) (place i j) (crossed_at slot cycle i j)
crossed_one false b slot cycle i j = b

-- input part, the first u inputs in turn: one packet of each moves to its crosspoint
unfoldable pub crossings : ℕ → List ℕ → List ℕ → List ℕ → List ℕ → ℕ → ℕ → ℕ → Flow
crossings ports turn crosscap inlen crosslen slot cycle zero = still inlen crosslen
crossings ports turn crosscap inlen crosslen slot cycle (suc u) =
    let b = crossings ports turn crosscap inlen crosslen slot cycle u in
    let i = get_or turn u 0 in
    let j = crossing ports crosscap b i in
    crossed_one (ltb j ports) b slot cycle i j

unfoldable pub input_part : ℕ → List ℕ → List ℕ → List ℕ → List ℕ → ℕ → ℕ → Flow
input_part ports turn crosscap inlen crosslen slot cycle = crossings ports turn crosscap inlen crosslen slot cycle (length turn)

-- the place in turn of the first input whose crosspoint for output j is not empty, or N where there is none
unfoldable pub outmover : List ℕ → Flow → ℕ → ℕ
outmover turn b j = lowest (λ u. waits b.from (place (get_or turn u 0) j)) (length turn)

unfoldable pub outmoved_one : Bool → Flow → ℕ → ℕ → ℕ → ℕ → Flow
outmoved_one true b slot cycle i j = flowed b (place i j) j (outmoved_at slot cycle i j)
outmoved_one false b slot cycle i j = b

-- output part, the first j outputs, ascending: each that is not full takes one packet of the first input in turn that has one for it
unfoldable pub outmoves : List ℕ → List ℕ → List ℕ → List ℕ → ℕ → ℕ → ℕ → Flow
outmoves turn outcap crosslen outlen slot cycle zero = still crosslen outlen
outmoves turn outcap crosslen outlen slot cycle (suc j) =
    let b = outmoves turn outcap crosslen outlen slot cycle j in
    let u = outmover turn b j in
    outmoved_one (has_room outcap b.to j && ltb u (length turn)) b slot cycle (get_or turn u 0) j

unfoldable pub output_part : ℕ → List ℕ → List ℕ → List ℕ → List ℕ → ℕ → ℕ → Flow
output_part ports turn outcap crosslen outlen slot cycle = outmoves turn outcap crosslen outlen slot cycle ports
