-- The lent words carry the switch from one call to the next: after a step that is not refused, the switch of the words is the one that the step hands back. So calls one
-- after another are the steps one after another, and nothing is lost between them.
-- Assumes nothing.
use Prim.Native.Nat.{ℕ, zero, suc, ◌+◌, ◌≤◌}
use native.Mathlib.Omega.{arith}
use mathlib.Core.Path.{◌≡◌, refl, sym, ap, ◌∙◌, subst}
use Rattle.std.specs.Prelude.{Ok}
use Rattle.base.specs.Refusal.{judged_with, refusal_with}
use mathlib.Core.Bool.{Bool, true, false}
use mathlib.Core.List.{List}
use lib.Dec.{leb}
use borrow.Author.Tests.{ltb-true, leb-true}
use Rattle.base.proofs.Listed.{length_listed}
use Rattle.base.proofs.RefusalLaws.{unless_zero, chain_zero}
use Rattle.slot_laws.proofs.Balance.{Sized}
use Rattle.trace.specs.Reading.{reading}
use Rattle.switch.specs.declared.Switch.{Switch}
use Rattle.switch.specs.Making.{fresh, nought, made}
use Rattle.switch.specs.Steps.{arrive_refusal, arrived, arrive, close_refusal, close_step, close}
use Rattle.switch.specs.Draining.{drain_refusal, closings, quiet, drained_as, drained, drain}
use Rattle.switch.proofs.FreshLaws.{fresh_sized}
use Rattle.switch.proofs.KeepsLaws.{arrive_keeps, close_keeps}
use Rattle.switch.proofs.DrainLaws.{closings_keep}
use Rattle.image.specs.Image.{words, queues_of, switch_of, image_of}
use Rattle.image.proofs.ImageLaws.{image_back}
use Rattle.vaznirokh.proofs.LibraryLaws.{number_some}
use Rattle.vaznirokh.specs.Library.{settled, handed, arrived_switch, drained_switch, vaz_new, vaz_new_state, vaz_arrive, vaz_arrive_state, vaz_close, vaz_close_state, vaz_drain, vaz_drain_state}

-- the lists of a switch that was read out of words have their lengths
pub words_sized : (state : List ℕ) → Sized (switch_of state).queues
unfolding switch_of queues_of words
words_sized state =
    record {
      incap = length_listed _ 256;
      outcap = length_listed _ 16;
      crosscap = length_listed _ 256;
      inlen = length_listed _ 256;
      outlen = length_listed _ 16;
      crosslen = length_listed _ 256;
    }

-- where the number is 0 the words hold the image, and the image is the switch's
carried : (n : ℕ) (s : Switch) (state : List ℕ) → n ≡ 0 → Sized s.queues → switch_of (settled n (image_of s) state) ≡ s
unfolding settled
carried n s state e z = rw e (image_back s z)

-- what a step hands back where it is not refused
step_number : {A B : Type 0} (n : ℕ) (a : A) (b : B) → refusal_with (judged_with n a b) ≡ 0 → n ≡ 0
unfolding judged_with refusal_with
step_number zero a b e = refl
step_number (suc n) a b e = absurd (number_some _ e)

stepped : {A B : Type 0} (n : ℕ) (a : A) (b : B) → refusal_with (judged_with n a b) ≡ 0 → judged_with n a b ≡ Ok a
unfolding judged_with
stepped n a b e = rw (step_number n a b e)

close_sized : (s : Switch) → Sized s.queues → close_refusal s ≡ 0 → Sized (close_step s).queues
unfolding close_refusal
close_sized s z e =
    let parts = chain_zero _ _ e in
    (close_keeps s z (unless_zero _ 12 parts.0) (ltb-true _ _ (unless_zero _ 14 parts.1))).1

closings_sized : (s : Switch) (limit n : ℕ) → Sized s.queues → drain_refusal s limit ≡ 0 → n ≤ limit → Sized (closings s n).queues
unfolding drain_refusal
closings_sized s limit n z e h =
    let parts = chain_zero _ _ e in
    let low : s.slot + limit ≤ 8192 = leb-true _ _ (unless_zero _ 14 (chain_zero _ _ parts.1).1) in
    (closings_keep s z (unless_zero _ 12 parts.0) n (omega arith)).sized

drained_sized : (s : Switch) (limit : ℕ) → Sized s.queues → drain_refusal s limit ≡ 0 → Sized (drained s limit).switch.queues
unfolding drained
drained_sized s limit z r = go (leb (quiet s limit) limit) (quiet s limit) refl
  where
    go : (b : Bool) (n : ℕ) → leb n limit ≡ b → Sized (drained_as b s limit n).switch.queues
    go true n f = unfold drained_as in closings_sized s limit n z r (leb-true _ _ f)
    go false n f = unfold drained_as in closings_sized s limit limit z r (omega arith)

-- the four steps
pub new_carries : (trace state : List ℕ) → vaz_new trace state ≡ 0 → switch_of (vaz_new_state trace state) ≡ fresh trace
unfolding vaz_new vaz_new_state made handed fresh
new_carries trace state e =
    let same = ap handed (stepped (reading trace) (fresh trace) nought (chain_zero _ _ e).1) in
    carried _ (handed (made trace)) state e (subst (λ (s : Switch). Sized s.queues) (sym same) (fresh_sized trace)) ∙ same

pub arrive_carries : (state : List ℕ) (i j : ℕ) (answer : List ℕ) → vaz_arrive state i j answer ≡ 0 → switch_of (vaz_arrive_state state i j answer) ≡ arrived_switch (arrive (switch_of state) i j)
unfolding vaz_arrive vaz_arrive_state arrive arrived arrived_switch
arrive_carries state i j answer e =
    let s = switch_of state in
    let ok = (chain_zero _ _ e).1 in
    let same = ap arrived_switch (stepped (arrive_refusal s i j) (arrived s i j) s ok) in
    carried _ (arrived_switch (arrive s i j)) state e
    (subst (λ (w : Switch). Sized w.queues) (sym same) (arrive_keeps s i j (words_sized state) (step_number (arrive_refusal s i j) (arrived s i j) s ok)).1)

pub close_carries : (state : List ℕ) → vaz_close state ≡ 0 → switch_of (vaz_close_state state) ≡ handed (close (switch_of state))
unfolding vaz_close vaz_close_state close handed close_step
close_carries state e =
    let s = switch_of state in
    let ok = (chain_zero _ _ e).1 in
    let same = ap handed (stepped (close_refusal s) (close_step s) s ok) in
    carried _ (handed (close s)) state e
    (subst (λ (w : Switch). Sized w.queues) (sym same) (close_sized s (words_sized state) (step_number (close_refusal s) (close_step s) s ok)))

pub drain_carries : (state : List ℕ) (limit : ℕ) (answer : List ℕ) → vaz_drain state limit answer ≡ 0 → switch_of (vaz_drain_state state limit answer) ≡ drained_switch (drain (switch_of state) limit)
unfolding vaz_drain vaz_drain_state drain drained_switch drained
drain_carries state limit answer e =
    let s = switch_of state in
    let ok = (chain_zero _ _ e).1 in
    let same = ap drained_switch (stepped (drain_refusal s limit) (drained s limit) s ok) in
    carried _ (drained_switch (drain s limit)) state e
    (subst (λ (w : Switch). Sized w.queues) (sym same) (drained_sized s limit (words_sized state) (step_number (drain_refusal s limit) (drained s limit) s ok)))
