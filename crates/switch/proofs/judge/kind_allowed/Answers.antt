use mathlib.Core.Path.{sym, ap, ◌∙◌}
use Prim.Native.Nat.{ℕ}
use mathlib.Core.Bool.{Bool}
use mathlib.Core.List.{List}
use lib.ListN.{get_or}
use Rattle.base.proofs.Below.{all_none, all_more, all_fails, all_done}
use Rattle.switch.specs.Allowed.{queue_allowed}
use Rattle.switch.proofs.judge.kind_allowed.Goals as goal

abbrev good : (ℕ → Bool) → List ℕ → List ℕ → ℕ → Bool
good f cap len k = queue_allowed (f k) (get_or cap k 0) (get_or len k 0)

pub loop-k-init : goal.loop-k-init
loop-k-init g c f h = all_none _

pub returns-then-not-queue_allowed : goal.returns-then-not-queue_allowed
returns-then-not-queue_allowed g c f h =
    let a = c.args in
    let k = c.loop-k.k in
    let used = h k c.used.result c.loop-k-test.true c.used.ensures in
    sym (all_fails (good f a.cap.now a.len.now) _ k c.loop-k-test.true
    (ap (λ (x : Bool). queue_allowed x (get_or a.cap.now k 0) (get_or a.len.now k 0)) (sym used) ∙ sym c.queue_allowed.ensures ∙ c.if-not-queue_allowed.true))

pub loop-k-preserved : goal.loop-k-preserved
loop-k-preserved g c f h =
    let a = c.args in
    let k = c.loop-k.k in
    let used = h k c.used.result c.loop-k-test.true c.used.ensures in
    all_more (good f a.cap.now a.len.now) k (c.loop-k.invariant f h)
    (ap (λ (x : Bool). queue_allowed x (get_or a.cap.now k 0) (get_or a.len.now k 0)) (sym used) ∙ sym c.queue_allowed.ensures ∙ c.if-not-queue_allowed.false)

pub returns : goal.returns
returns g c f h = let a = c.args in
    sym (all_done (good f a.cap.now a.len.now) _ c.loop-k.k c.loop-k.auto.k-end c.loop-k-test.false (c.loop-k.invariant f h))
