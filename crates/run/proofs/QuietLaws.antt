-- After an accepted trace a drain with limit 4,096 is not refused and ends empty, after as many closings as are quiet; and by then all that was not dropped has
-- been sent. For the trace ends at slot 4,096 at the latest, and holds at most the 4,096 that arrived.
-- Assumes nothing.
use Prim.Native.Nat.{ℕ, ◌+◌, ◌-◌}
use native.Mathlib.Omega.{arith}
use mathlib.Core.Path.{◌≡◌}
use mathlib.Core.List.{List}
use borrow.Author.Tests.{le-leb}
use Rattle.std.specs.Prelude.{Ok}
use Rattle.base.specs.Refusal.{unless, ◌⨟◌}
use Rattle.trace.specs.Reading.{reading}
use Rattle.trace.proofs.SlotsLaws.{slots_few}
use Rattle.switch.specs.declared.Drain.TheVariants.{Empty}
use Rattle.switch.specs.declared.Drained.{Drained}
use Rattle.switch.specs.Draining.{drain_refusal, closings, quiet, drain}
use Rattle.switch.proofs.AllowedLaws.{sound}
use Rattle.switch.proofs.DrainLaws.{closings_keep, Drains, drain_ends}
use Rattle.run.specs.Run.{whole, switch_in}
use Rattle.run.proofs.HistoryLaws.{whole_allowed}

module _ (s : List ℕ) (r : reading s ≡ 0) where
  pub drain_taken : drain_refusal (whole s).switch 4096 ≡ 0
  unfolding drain_refusal unless ◌⨟◌
  drain_taken =
      let w = (whole s).switch in
      let a = whole_allowed s r in
      rw (a.allowed, le-leb (w.slot + 4096) 8192 (omega (arith, a.slot, slots_few s r)))

  pub end_drains : Drains (whole s).switch 4096
  end_drains =
      let w = (whole s).switch in
      let a = whole_allowed s r in
      let counts = sound w a.allowed in
      drain_ends w 4096 a.sized drain_taken (omega (arith, counts.arrived, counts.few))

  pub drain_ends_empty : drain (whole s).switch 4096 ≡ Ok (record { drain = Empty (quiet (whole s).switch 4096); switch = closings (whole s).switch (quiet (whole s).switch 4096) })
  drain_ends_empty = end_drains.answer

  -- by then all that was not dropped has been sent
  pub drained_sent : (switch_in (λ (d : Drained). d.switch) (drain (whole s).switch 4096)).sent ≡ (whole s).switch.arrived - (whole s).switch.dropped
  unfolding switch_in
  drained_sent =
      let w = (whole s).switch in
      let a = whole_allowed s r in
      let counts = sound w a.allowed in
      let d = end_drains in
      let n = quiet w 4096 in
      let b = closings_keep w a.sized a.allowed n (omega (arith, a.slot, slots_few s r, d.few, counts.arrived, counts.few)) in
      rw d.answer (omega (arith, (sound (closings w n) b.allowed).arrived, b.arrived, b.dropped, d.empty))
