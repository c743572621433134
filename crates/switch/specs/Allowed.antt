-- Which switch values are allowed (document 01, refusal 13).
use Rattle.std.specs.Prelude.{ℕ, ◌+◌, ◌/◌, ◌%◌, Bool, true, false, ◌&&◌, get_or, leb, ltb, eqb}
use Rattle.base.specs.Below.{all_below}
use Rattle.layout.specs.Header.{model_allowed, order_allowed, side_allowed, has_crosspoints}
use Rattle.layout.specs.Tables.{capacity_allowed}
use Rattle.queues.specs.declared.Queues.{Queues}
use Rattle.switch.specs.declared.Switch.{Switch}
use Rattle.switch.specs.Switch.{held_out, held_cross, held}

-- which of the 256 places for pairs N ports use: place i × 16 + j, for input i and output j below N
unfoldable pub used_pair : ℕ → ℕ → Bool
used_pair ports k = ltb (k / 16) ports && ltb (k % 16) ports

-- a used capacity is allowed and its queue is not above it; in a place that is not used both numbers are 0
unfoldable pub queue_allowed : Bool → ℕ → ℕ → Bool
queue_allowed true cap len = capacity_allowed cap && leb len cap
queue_allowed false cap len = eqb cap 0 && eqb len 0

unfoldable pub queues_allowed : ℕ → ℕ → Queues → Bool
queues_allowed model ports q =
    all_below (λ k. queue_allowed (used_pair ports k) (get_or q.incap k 0) (get_or q.inlen k 0)) 256
    && (all_below (λ j. queue_allowed (ltb j ports) (get_or q.outcap j 0) (get_or q.outlen j 0)) 16
    && all_below (λ k. queue_allowed (has_crosspoints model && used_pair ports k) (get_or q.crosscap k 0) (get_or q.crosslen k 0)) 256)

-- arrived = dropped + sent + held; crossed = sent + held in output queues and crosspoints; outmoved = sent + held in output queues
unfoldable pub counts_agree : Switch → Bool
counts_agree s =
    eqb s.arrived (s.dropped + s.sent + held s)
    && (eqb s.crossed (s.sent + held_out s.queues + held_cross s.queues) && eqb s.outmoved (s.sent + held_out s.queues))

unfoldable pub switch_allowed : Switch → Bool
switch_allowed s =
    model_allowed s.model
    && (order_allowed s.order
    && (side_allowed s.ports
    && (side_allowed s.speedup
    && (queues_allowed s.model s.ports s.queues
    && (leb s.arrived 4096 && (leb s.slot 8192 && counts_agree s))))))
