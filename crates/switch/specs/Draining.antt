-- Draining (document 01, "Counts and draining"): closes slots without arrivals until the switch is empty or a limit is reached.
use Rattle.std.specs.Prelude.{ℕ, zero, suc, ◌+◌, Bool, true, false, Result, leb, eqb}
use Rattle.base.specs.Below.{lowest}
use Rattle.base.specs.declared.Refused.{Refused}
use Rattle.base.specs.Refusal.{unless, ◌⨟◌, judged_with}
use Rattle.switch.specs.declared.Switch.{Switch}
use Rattle.switch.specs.declared.Drain.TheVariants.{Empty, NotEmpty}
use Rattle.switch.specs.declared.Drained.{Drained}
use Rattle.switch.specs.Switch.{held}
use Rattle.switch.specs.Allowed.{switch_allowed}
use Rattle.switch.specs.Steps.{close_step}

-- 13, 16, 15
unfoldable pub drain_refusal : Switch → ℕ → ℕ
drain_refusal s limit =
    unless (switch_allowed s) 13
    ⨟ unless (leb limit 4096) 16
    ⨟ unless (leb (s.slot + limit) 8192) 15

-- the switch after n closings
unfoldable pub closings : Switch → ℕ → Switch
closings s zero = s
closings s (suc n) = close_step (closings s n)

-- the least number of closings, up to the limit, after which nothing is held; limit + 1 where there is none
unfoldable pub quiet : Switch → ℕ → ℕ
quiet s limit = lowest (λ n. eqb (held (closings s n)) 0) (suc limit)

-- empty, with the count of quiet slots; otherwise not empty, with count equal to the limit. The switch is the one after exactly that many closings
unfoldable pub drained_as : Bool → Switch → ℕ → ℕ → Drained
drained_as true s limit n = record { drain = Empty n; switch = closings s n }
drained_as false s limit n = record { drain = NotEmpty limit; switch = closings s limit }

unfoldable pub drained : Switch → ℕ → Drained
drained s limit = let n = quiet s limit in drained_as (leb n limit) s limit n

unfoldable pub drain : Switch → ℕ → Result Drained (Refused Switch)
drain s limit = judged_with (drain_refusal s limit) (drained s limit) s
