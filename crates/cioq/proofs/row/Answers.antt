-- `cioq::row` meets its contract: a part of a list has the list's numbers from the part's place on.
-- Assumes nothing.
use Prim.Native.Nat.{ℕ, ◌+◌, ◌-◌}
use native.Mathlib.Omega.{arith}
use mathlib.Core.Path.{◌≡◌, ap, ◌∙◌}
use mathlib.Core.List.{List}
use lib.ListN.{get_or, take, drop}
use lib.Seq.{get_or-take, get_or-drop}
use Rattle.queues.specs.Queues.{place}
use Rattle.cioq.proofs.row.Goals as goal

pub returns-in-Some : goal.returns-in-Some
unfolding place
returns-in-Some c =
    let l = c.args.inlen.now in
    let p : ℕ = c.place-first.result in
    let long : p + 16 - p ≡ 16 = omega arith in
    λ j h.
    let there : p + j ≡ place c.args.i j = omega (arith, c.place-first.ensures) in
    ap (λ (x : List ℕ). get_or x j 0) c.copy_from_slice.ensures.after
    ∙ ap (λ (x : List ℕ). get_or x j 0) c.in-Some.ensures.lookup.0.2
    ∙ ap (λ (n : ℕ). get_or (take n (drop p l)) j 0) long
    ∙ get_or-take 16 (drop p l) j 0 h
    ∙ get_or-drop p l j 0
    ∙ ap (λ (n : ℕ). get_or l n 0) there
