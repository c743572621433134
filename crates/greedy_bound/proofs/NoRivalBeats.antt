-- No rival beats the limit, of the very run that the definitions give: at the end of every slot of an accepted trace of model 1, and of every slot that a drain
-- closes after it, whatever a rival has done it has sent at most three times what the run has sent and twice what then stands in the run's output queues. Where
-- those are empty it is three times; so it is once a drain has emptied the switch.
-- Assumes nothing.
use Prim.Native.Nat.{ℕ, zero, suc, ◌+◌, ◌*◌, ◌≤◌, ◌<◌}
use native.Mathlib.Omega.{arith}
use mathlib.Core.Path.{◌≡◌, refl, sym, ap, subst}
use mathlib.Core.Logic.{⊎_elim}
use mathlib.Core.Bool.{Bool, true, false}
use mathlib.Core.List.{List}
use lib.ListN.{get_or}
use lib.Dec.{leb}
use borrow.Author.Tests.{leb-true}
use Rattle.std.specs.Prelude.{Ok}
use Rattle.base.specs.Below.{sum_below}
use Rattle.base.proofs.Order.{le_or_lt}
use Rattle.trace.specs.Reading.{header_of, reading}
use Rattle.slot_laws.proofs.TurnLaws.{Round}
use Rattle.switch.specs.declared.Switch.{Switch}
use Rattle.switch.specs.declared.Drain.TheVariants.{Empty}
use Rattle.switch.specs.declared.Drained.{Drained}
use Rattle.switch.specs.Switch.{packets, held_out, held_all, held}
use Rattle.switch.specs.Draining.{drain_refusal, closings, quiet, drained_as, drained, drain}
use Rattle.switch.proofs.AnswersLaws.{not_refused}
use Rattle.switch.proofs.DrainLaws.{quiet_empty}
use Rattle.run.specs.Run.{slots, whole}
use Rattle.bound.specs.Switch.{Trace, State}
use Rattle.bound.specs.Greedy.{Greedy, limit}
use Rattle.bound.specs.Rival.{Rival}
use Rattle.bound.proofs.Bound.{bound}
use Rattle.greedy_bound.specs.Rivalry.{config_of, trace_of, limit_of, state_of}
use Rattle.greedy_bound.specs.Orders.{slots_by, trace_by}
use Rattle.greedy_bound.proofs.Histories.{few, run_is_greedy, drain_is_greedy, orders_are_greedy}

sum_grows : (f : ℕ → ℕ) (k n : ℕ) → k ≤ n → sum_below f k ≤ sum_below f n
unfolding sum_below
sum_grows f k zero h = let e : k ≡ 0 = omega arith in rw e (omega arith)
sum_grows f k (suc n) h =
    ⊎_elim
    (λ (l : k ≤ n). let rest = sum_grows f k n l in omega arith)
    (λ (l : n < k). let e : k ≡ suc n = omega arith in rw e (omega arith))
    (le_or_lt k n)

-- where the output queues are empty, the limit is three times what has been sent
pub limit_where_empty : (w : Switch) → held_out w.queues ≡ 0 → limit_of w ≡ 3 * w.sent
unfolding limit_of
limit_where_empty w none = omega arith

-- nothing is held at all, so nothing in output queues
none_out : (w : Switch) → held w ≡ 0 → held_out w.queues ≡ 0
unfolding held held_all
none_out w none = omega arith

-- a drain that ends empty hands back the switch after so many closings, in which nothing is held
module _ (w : Switch) (most n : ℕ) where
  Emptied : Drained → Type 0
  Emptied d = d.drain ≡ Empty n → (d.switch ≡ closings w n) × (held (closings w n) ≡ 0)

  by_count : (b : Bool) → leb (quiet w most) most ≡ b → Emptied (drained_as b w most (quiet w most))
  unfolding Emptied drained_as
  by_count true t e =
      let q : quiet w most ≡ n = cc in
      (ap (closings w) q, subst (λ (k : ℕ). held (closings w k) ≡ 0) q (quiet_empty w most (leb-true (quiet w most) most t)))
  by_count false t e = let f : ◌≡◌ {A = ℕ} 0 1 = cc in absurd (omega arith)

  emptied : (d : Drained) → drain w most ≡ Ok d → d.drain ≡ Empty n → (d.switch ≡ closings w n) × (held (closings w n) ≡ 0)
  unfolding Emptied drain drained
  emptied d a =
      let e = (not_refused (drained w most) d w (drain_refusal w most) (sym a)).1 in
      rw e (by_count (leb (quiet w most) most) refl)

-- an accepted trace of model 1, and a state e of a rival
module _ (s : List ℕ) (r : reading s ≡ 0) (m : (header_of s).model ≡ 1) (e : State) where
  at_most : {trace : Trace} {t : ℕ} (w : Switch) → Greedy (config_of s) trace t (state_of w) → Rival (config_of s) trace t e → e.sent ≤ limit_of w
  unfolding limit limit_of held_out packets
  at_most {trace} {t} w g x =
      omega (
        arith,
        bound (config_of s) trace t (state_of w) e g x,
        sum_grows (λ j. get_or w.queues.outlen j 0) (config_of s).ports 16 (few s r m),
      )

  -- at the end of every slot of the trace
  pub no_rival_beats : (t : ℕ) → t ≤ (header_of s).slots → Rival (config_of s) (trace_of s) t e → e.sent ≤ limit_of (slots s t).switch
  no_rival_beats t h x = at_most (slots s t).switch (run_is_greedy s r m t h) x

  pub three_times_where_empty : (t : ℕ) → t ≤ (header_of s).slots → held_out (slots s t).switch.queues ≡ 0 → Rival (config_of s) (trace_of s) t e
      → e.sent ≤ 3 * (slots s t).switch.sent
  three_times_where_empty t h none x = rw (limit_where_empty (slots s t).switch none) at (no_rival_beats t h x)

  -- at the end of every slot that is closed after the trace's end
  pub no_rival_beats_after : (n : ℕ) → Rival (config_of s) (trace_of s) ((header_of s).slots + n) e → e.sent ≤ limit_of (closings (whole s).switch n)
  no_rival_beats_after n x = at_most (closings (whole s).switch n) (drain_is_greedy s r m n) x

  pub three_times_after : (n : ℕ) → held_out (closings (whole s).switch n).queues ≡ 0 → Rival (config_of s) (trace_of s) ((header_of s).slots + n) e
      → e.sent ≤ 3 * (closings (whole s).switch n).sent
  three_times_after n none x = rw (limit_where_empty (closings (whole s).switch n) none) at (no_rival_beats_after n x)

  -- where a drain ends empty
  pub three_times_drained : (most n : ℕ) (d : Drained) → drain (whole s).switch most ≡ Ok d → d.drain ≡ Empty n → Rival (config_of s) (trace_of s) ((header_of s).slots + n) e
      → e.sent ≤ 3 * d.switch.sent
  three_times_drained most n d a b x =
      let w = emptied (whole s).switch most n d a b in
      rw w.0 (three_times_after n (none_out (closings (whole s).switch n) w.1) x)

  -- whatever the order of visiting, another one for each cycle of each slot, and whichever outputs may send
  module _ (orders : ℕ → ℕ → List ℕ) (rounds : (t k : ℕ) → Round (header_of s).ports (orders t k)) (may : ℕ → ℕ → Bool) (t : ℕ) where
    pub no_rival_beats_any_order : Rival (config_of s) (trace_by may s) t e → e.sent ≤ limit_of (slots_by orders may s t).switch
    no_rival_beats_any_order x = at_most (slots_by orders may s t).switch (orders_are_greedy s r m orders rounds may t) x

    pub three_times_any_order : held_out (slots_by orders may s t).switch.queues ≡ 0 → Rival (config_of s) (trace_by may s) t e
        → e.sent ≤ 3 * (slots_by orders may s t).switch.sent
    three_times_any_order none x = rw (limit_where_empty (slots_by orders may s t).switch none) at (no_rival_beats_any_order x)
