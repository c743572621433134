-- `run::slots::all_slots` meets its contract. The invariant: the queues, the log and the count of drops hold the history of the slots passed.
-- Assumes nothing.
use mathlib.Core.Path.{◌≡◌}
use Rattle.trace.specs.Slots.{before}
use Rattle.run.specs.Run.{slots}
use Rattle.run.proofs.PassingLaws.{Here}
use Rattle.run.proofs.slots.all_slots.Given as goal

abbrev pub invariant-loop-t : goal.invariant-loop-t
invariant-loop-t l = record {
  start : l.start ≡ before l.trace l.t;
  here : Here l.initial.log (slots l.trace l.t) l.end.queues l.log l.end.words l.end.dropped;
}
