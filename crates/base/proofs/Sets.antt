-- Runs of stores (`sets` of lib.Seq): one run after another is one run, a loop's run grows by one, and a run from the start that fits
-- stands in front of what was behind it.
-- Assumes nothing.
use Prim.Native.Nat.{ℕ, suc, ◌+◌, ◌≤◌, ◌<◌}
use native.Mathlib.Nat.{add-zero, add-suc, suc-add, zero-add}
use native.Mathlib.Numerals.{add-one}
use native.Mathlib.Omega.{arith}
use mathlib.Core.Path.{◌≡◌, ◌∙◌}
use mathlib.Core.List.{List, [], ◌∷◌, ◌++◌}
use lib.ListN.{length, get_or, take, drop, set}
use lib.Seq.{sets, sets-eq, take-suc, length-take-le}

pub sets_then : (l : List ℕ) (i : ℕ) (vs ws : List ℕ) → sets l i (vs ++ ws) ≡ sets (sets l i vs) (i + length vs) ws
sets_then l i [] ws = rw add-zero
sets_then l i (v ∷ vs) ws = rw (sets_then (set l i v) (suc i) vs ws, suc-add, add-suc)

pub sets_more : (l : List ℕ) (i : ℕ) (vs : List ℕ) (k : ℕ) → k < length vs → sets l i (take (k + 1) vs) ≡ set (sets l i (take k vs)) (i + k) (get_or vs k 0)
sets_more l i vs k h =
    let n : length (take k vs) ≡ k = length-take-le k vs (omega arith) in
    rw (add-one, take-suc vs k 0 h, sets_then, n)

pub sets_start : (l vs : List ℕ) → length vs ≤ length l → sets l 0 vs ≡ vs ++ drop (length vs) l
sets_start l vs h = let fits : 0 + length vs ≤ length l = omega arith in sets-eq vs l 0 fits ∙ rw zero-add
