-- How many digits a number has. The kit's code promises the fewest, at least so many, that hold it (`IsDigitCount`); that fixes their number, since powers grow.
-- Assumes nothing.
use Prim.Native.Nat.{ℕ, zero, suc, ◌+◌, ◌-◌, ◌^◌, ◌≤◌, ◌<◌}
use native.Mathlib.Nat.{pow-le-pow_right}
use native.Mathlib.Numerals.{add-one}
use native.Mathlib.Omega.{arith}
use mathlib.Core.Path.{◌≡◌, sym, ap, ◌∙◌, subst}
use mathlib.Core.Logic.{⊎_elim}
use lib.Dec.{ltb}
use borrow.Author.Tests.{lt-ltb, le-ltb}
use Rattle.base.proofs.Order.{le_or_lt}
use Rattle.base.proofs.Lowest.{lowest_found}
use Rattle.io.specs.Digits.{last_digits, IsDigitCount}
use Rattle.text.specs.Text.{places, decimal, hex}

-- j digits that hold n, no fewer than asked for, are no fewer than the fewest
no_fewer : (b least n j k : ℕ) → 0 < b → least ≤ j → n < b ^ j → IsDigitCount b least n k → k ≤ j
no_fewer b least n j k pos asked holds f =
    ⊎_elim
    (λ h. h)
    (λ (h : j < k).
    let low : b ^ (k - 1) ≤ n = f.2 (omega arith) in
    let up : b ^ j ≤ b ^ (k - 1) = pow-le-pow_right pos (omega arith) in
    absurd (omega arith))
    (le_or_lt k j)

pub fewest_one : (b least n j k : ℕ) → 0 < b → IsDigitCount b least n j → IsDigitCount b least n k → j ≡ k
fewest_one b least n j k pos f g =
    let below = no_fewer b least n j k pos f.0 f.1 g in
    let above = no_fewer b least n k j pos g.0 g.1 f in
    omega arith

-- decimal: the places are the fewest digits, at least one
decimal_places : (n k : ℕ) → n < 4294967296 → IsDigitCount 10 1 n k → k ≡ places n
unfolding places
decimal_places n zero small f = absurd (omega arith)
decimal_places n (suc k) small f =
    let few : suc k ≤ 10 = no_fewer 10 1 n 10 (suc k) (omega arith) (omega arith) (omega arith) f in
    let found =
    lowest_found (λ j. ltb n (10 ^ suc j)) 20 k (omega arith) (lt-ltb n (10 ^ suc k) f.1)
    (λ m h.
    let up : 10 ^ suc m ≤ 10 ^ k = pow-le-pow_right (omega arith) (omega arith) in
    let low : 10 ^ (suc k - 1) ≤ n = f.2 (omega arith) in
    let e : suc k - 1 ≡ k = omega arith in
    le-ltb n (10 ^ suc m) (let l : 10 ^ k ≤ n = subst (λ (i : ℕ). 10 ^ i ≤ n) e low in omega arith))
    in
    sym (ap (λ (i : ℕ). i + 1) found ∙ add-one k)

pub decimal_is : (n k : ℕ) → n < 4294967296 → IsDigitCount 10 1 n k → last_digits 10 k n ≡ decimal n
unfolding decimal
decimal_is n k small f = ap (λ (i : ℕ). last_digits 10 i n) (decimal_places n k small f)

-- hexadecimal: eight digits hold 32 bits
pub hex_is : (w k : ℕ) → w < 4294967296 → IsDigitCount 16 8 w k → last_digits 16 k w ≡ hex w
unfolding hex
hex_is w k small f =
    ap (λ (i : ℕ). last_digits 16 i w) (fewest_one 16 8 w k 8 (omega arith) f (omega arith, small, λ h. absurd (omega arith)))
