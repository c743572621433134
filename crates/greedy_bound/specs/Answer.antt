-- The limit of a switch value, the most that any rival can have sent by then; and the limits of a run by its counts.
use Rattle.std.specs.Prelude.{ℕ, ◌+◌, ◌-◌, ◌*◌, Result, eqb}
use Rattle.base.specs.declared.Refusal.{Refusal}
use Rattle.base.specs.Refusal.{unless, ◌⨟◌, judged}
use Rattle.switch.specs.declared.Switch.{Switch}
use Rattle.switch.specs.Allowed.{switch_allowed}
use Rattle.run.specs.declared.Counts.{Counts}
use Rattle.greedy_bound.specs.declared.Limits.{Limits}
use Rattle.greedy_bound.specs.Rivalry.{limit_of}

-- 13, and 2 for a model that the limit is not for
unfoldable pub limit_refusal : Switch → ℕ
limit_refusal s = unless (switch_allowed s) 13 ⨟ unless (eqb s.model 1) 2

unfoldable pub limit_answer : Switch → Result ℕ Refusal
limit_answer s = judged (limit_refusal s) (limit_of s)

-- at the trace's end, and once a drain has emptied the switch
unfoldable pub limits_of : Counts → Limits
limits_of c = record { end = c.sent + 2 * c.outmoved; drained = 3 * (c.arrived - c.dropped) }
