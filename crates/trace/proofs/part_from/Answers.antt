-- `trace::part_from` meets its contract: both ends are kept within the slice.
-- Assumes nothing.
use Prim.Native.Nat.{ℕ, ◌+◌, ◌*◌, ◌-◌, min}
use native.Mathlib.Omega.{arith}
use mathlib.Core.Path.{◌≡◌, ap, ◌∙◌}
use mathlib.Core.List.{List}
use lib.ListN.{length, take, drop}
use Rattle.std.proofs.Math.Seq.{take-length}
use Rattle.std.proofs.lemmas.List.{take_min, drop_min, length-drop}
use Rattle.trace.specs.Reading.{word}
use Rattle.trace.specs.Slots.{part_from}
use Rattle.trace.proofs.part_from.Goals as goal

-- n bytes from p on, as far as the slice reaches
kept : (s : List ℕ) (p f n m : ℕ) → f ≡ min p (length s) → m ≡ min n (length (take (length s - f) (drop f s))) → take m (take (length s - f) (drop f s)) ≡ take n (drop p s)
kept s p f n m e h =
    let long : length s - f ≡ length (drop f s) = omega (arith, length-drop f s) in
    let rest : take (length s - f) (drop f s) ≡ drop p s = ap (λ (k : ℕ). take k (drop f s)) long ∙ take-length (drop f s) ∙ ap (λ (k : ℕ). drop k s) e ∙ drop_min p s in
    ap (λ (k : ℕ). take k (take (length s - f) (drop f s))) h ∙ take_min n (take (length s - f) (drop f s)) ∙ ap (take n) rest

pub returns : goal.returns
unfolding part_from
returns c =
    let s = c.args.trace.now in
    let from : c.min-from.result ≡ min (word s 32 + 2 * c.args.start) (length s) = omega (arith, c.word.ensures) in
    kept s _ _ _ _ from c.min.ensures ∙ ap (λ (n : ℕ). take (2 * n) (drop (word s 32 + 2 * c.args.start) s)) c.slot_count.ensures
