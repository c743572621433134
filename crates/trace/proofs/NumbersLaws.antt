-- Numbers at any place: no slice reaches the last place that can be asked for, so a place that is kept to it reads the same.
-- Assumes nothing.
use Prim.Native.Nat.{ℕ, ◌+◌, ◌*◌, ◌≤◌, ◌<◌, min}
use native.Mathlib.Omega.{arith}
use native.Mathlib.Nat.{add-zero, add_assoc}
use mathlib.Core.Path.{◌≡◌, sym, ap, ◌∙◌}
use mathlib.Core.Logic.{⊎_elim}
use mathlib.Core.List.{List}
use lib.ListN.{length}
use Rattle.base.specs.Digits.{byte, number}
use Rattle.base.proofs.Digits.{number_two, number_four, number_past}
use Rattle.base.proofs.Order.{le_or_lt}

pub number_saturated : (k : ℕ) (s : List ℕ) (p m q : ℕ) → length s ≤ m → q ≡ min p m → number k s q ≡ number k s p
number_saturated k s p m q h e =
    ⊎_elim
    (λ (l : p ≤ m). ap (λ (n : ℕ). number k s n) (omega arith))
    (λ (l : m < p). number_past k s q (omega arith) ∙ sym (number_past k s p (omega arith)))
    (le_or_lt p m)

-- numbers of two and four bytes, from the bytes at a place and past it
pub two_bytes : (s : List ℕ) (p a b : ℕ) → a ≡ byte s (p + 0) → b ≡ byte s (p + 1) → a + b * 256 ≡ number 2 s p
two_bytes s p a b ea eb =
    let first : a ≡ byte s p = ea ∙ ap (byte s) (add-zero p) in
    omega (arith, number_two s p)

pub four_bytes : (s : List ℕ) (p a b c d : ℕ) → a ≡ byte s (p + 0) → b ≡ byte s (p + 1) → c ≡ byte s (p + 2) → d ≡ byte s (p + 3) → a + b * 256 + c * 65536 + d * 16777216 ≡ number 4 s p
four_bytes s p a b c d ea eb ec ed =
    let low : a + b * 256 ≡ number 2 s p = two_bytes s p a b ea eb in
    let third : c ≡ byte s (p + 2 + 0) = ec ∙ ap (byte s) (sym (add-zero (p + 2))) in
    let fourth : d ≡ byte s (p + 2 + 1) = ed ∙ ap (byte s) (sym (add_assoc p 2 1)) in
    let high : c + d * 256 ≡ number 2 s (p + 2) = two_bytes s (p + 2) c d third fourth in
    omega (arith, number_four s p)
