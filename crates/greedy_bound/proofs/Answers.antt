-- What the functions answer of a run: of an accepted trace of model 1 no switch is refused, so the answer is the limit that no rival beats. And a
-- drain with limit 4,096 at the trace's end always ends empty (`QuietLaws` of run), and by then all that was not dropped has been sent: so in the end no rival
-- has sent more than three times what greedy accepted.
-- Assumes nothing.
use Prim.Native.Nat.{ℕ, ◌+◌, ◌-◌, ◌*◌, ◌≤◌}
use native.Mathlib.Omega.{arith}
use mathlib.Core.Path.{◌≡◌, ◌∙◌}
use mathlib.Core.Bool.{true}
use mathlib.Core.List.{List}
use lib.Dec.{eqb}
use borrow.Author.Tests.{eq-eqb}
use Rattle.std.specs.Prelude.{Ok}
use Rattle.base.specs.Refusal.{unless, judged}
use Rattle.base.proofs.RefusalLaws.{passed}
use Rattle.trace.specs.Reading.{header_of, reading}
use Rattle.switch.specs.declared.Switch.{Switch}
use Rattle.switch.specs.declared.Drain.TheVariants.{Empty}
use Rattle.switch.specs.declared.Drained.{Drained}
use Rattle.switch.specs.Allowed.{switch_allowed}
use Rattle.switch.specs.Draining.{closings, drain}
use Rattle.switch.proofs.AllowedLaws.{sound}
use Rattle.switch.proofs.DrainLaws.{closings_keep}
use Rattle.run.specs.Run.{slots, whole, counts_of, switch_in}
use Rattle.run.proofs.HistoryLaws.{history_allowed, whole_allowed}
use Rattle.run.proofs.QuietLaws.{drained_sent}
use Rattle.bound.specs.Switch.{State}
use Rattle.bound.specs.Rival.{Rival}
use Rattle.greedy_bound.specs.Rivalry.{config_of, trace_of, limit_of}
use Rattle.greedy_bound.specs.Answer.{limit_refusal, limit_answer, limits_of}
use Rattle.greedy_bound.proofs.NoRivalBeats.{three_times_drained}

answers : (w : Switch) → switch_allowed w ≡ true → w.model ≡ 1 → limit_answer w ≡ Ok (limit_of w)
unfolding limit_answer limit_refusal judged unless
answers w a m =
    let none : limit_refusal w ≡ 0 = passed (switch_allowed w) 13 (unless (eqb w.model 1) 2) a ∙ rw (eq-eqb w.model 1 m) in
    rw none

-- the same by a run's counts alone
pub limit_by_counts : (w : Switch) → switch_allowed w ≡ true → limit_of w ≡ w.sent + 2 * w.outmoved
unfolding limit_of
limit_by_counts w a = omega (arith, (sound w a).outmoved)

module _ (s : List ℕ) (r : reading s ≡ 0) (m : (header_of s).model ≡ 1) where
  pub limit_answers : (t : ℕ) → t ≤ (header_of s).slots → limit_answer (slots s t).switch ≡ Ok (limit_of (slots s t).switch)
  limit_answers t h = let a = history_allowed s r t h in answers (slots s t).switch a.allowed (a.model ∙ m)

  pub limit_answers_after : (n : ℕ) → (header_of s).slots + n ≤ 8192 → limit_answer (closings (whole s).switch n) ≡ Ok (limit_of (closings (whole s).switch n))
  limit_answers_after n h =
      let a = whole_allowed s r in
      let b = closings_keep (whole s).switch a.sized a.allowed n (omega (arith, a.slot)) in
      answers (closings (whole s).switch n) b.allowed (b.model ∙ a.model ∙ m)

  pub three_times_accepted : (n : ℕ) (d : Drained) → drain (whole s).switch 4096 ≡ Ok d → d.drain ≡ Empty n → (e : State) → Rival (config_of s) (trace_of s) ((header_of s).slots + n) e
      → e.sent ≤ 3 * ((whole s).switch.arrived - (whole s).switch.dropped)
  unfolding switch_in
  three_times_accepted n d a b e x =
      let sent : d.switch.sent ≡ (whole s).switch.arrived - (whole s).switch.dropped = rw a at (drained_sent s r) in
      rw sent at (three_times_drained s r m e 4096 n d a b x)

  -- what `greedy_bound::of_run` makes of the run's counts: the limit at the trace's end, and three times what has been sent once a drain has emptied the switch
  pub limits_of_run : ((limits_of (counts_of (whole s).switch)).end ≡ limit_of (whole s).switch)
      × ((limits_of (counts_of (whole s).switch)).drained ≡ 3 * (switch_in (λ (d : Drained). d.switch) (drain (whole s).switch 4096)).sent)
  unfolding limits_of counts_of
  limits_of_run = (omega (arith, limit_by_counts (whole s).switch (whole_allowed s r).allowed), omega (arith, drained_sent s r))
