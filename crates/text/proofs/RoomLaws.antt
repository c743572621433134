-- A text that a page has room for stands on it whole. `Room` is what is needed: that the text is no longer than so many bytes, and that each byte is one that `logged` takes (`Fit`).
-- Assumes nothing.
use Prim.Native.Nat.{ℕ, zero, suc, ◌+◌, ◌%◌, ◌/◌, ◌^◌, ◌≤◌, ◌<◌}
use native.Mathlib.Nat.{mod-lt}
use native.Mathlib.Numerals.{add-one}
use native.Mathlib.Omega.{arith}
use mathlib.Core.Path.{◌≡◌, refl, sym, ap, ◌∙◌}
use mathlib.Core.Bool.{Bool, true, false, cond, ◌&&◌}
use mathlib.Core.List.{List, [], ◌∷◌, ◌++◌}
use lib.ListN.{length, take, drop, length-append}
use lib.Seq.{take_at}
use lib.Dec.{ltb, leb}
use borrow.Author.Tests.{lt-ltb, ltb-true, leb-true}
use Rattle.base.proofs.Below.{both_true}
use Rattle.base.proofs.Lowest.{lowest_bound, lowest_first}
use Rattle.io.specs.Digits.{hex_digit_ascii, last_digits}
use Rattle.queues.proofs.LogLaws.{Fit, none, more, logged_whole, onward_within}
use Rattle.text.specs.Text.{Written, ascii, places, decimal, hex, line}

pub record Room (text : List ℕ) (n : ℕ) : Type 0 where
  pub fit : Fit text
  pub long : length text ≤ n

pub room_more : {text : List ℕ} {m n : ℕ} → Room text m → m ≤ n → Room text n
room_more a h = record { fit = a.fit; long = omega (arith, a.long) }

fit_then : {vs ws : List ℕ} → Fit vs → Fit ws → Fit (vs ++ ws)
fit_then none b = b
fit_then (more h a) b = more h (fit_then a b)

pub room_then : {vs ws : List ℕ} {m n : ℕ} → Room vs m → Room ws n → Room (vs ++ ws) (m + n)
room_then {vs} {ws} a b =
    record { fit = fit_then a.fit b.fit; long = omega (arith, a.long, b.long, length-append vs ws) }

pub either_room : (t : Bool) {vs ws : List ℕ} {n : ℕ} → Room vs n → Room ws n → Room (cond t vs ws) n
either_room true a b = a
either_room false a b = b

-- a text whose bytes are written down is tested
abbrev fits : List ℕ → Bool
fits [] = true
fits (w ∷ ws) = ltb w 4294967296 && fits ws

fit_tested : (ws : List ℕ) → fits ws ≡ true → Fit ws
fit_tested [] e = none
fit_tested (w ∷ ws) e =
    let both = both_true (ltb w 4294967296) (fits ws) e in
    more (ltb-true w 4294967296 both.0) (fit_tested ws both.1)

pub room_written : (text : List ℕ) (n : ℕ) → (fits text && leb (length text) n) ≡ true → Room text n
room_written text n e =
    let both = both_true (fits text) (leb (length text) n) e in
    record { fit = fit_tested text both.0; long = leb-true (length text) n both.1 }

-- digits
either_small : (t : Bool) (x y m : ℕ) → x < m → y < m → cond t x y < m
either_small true x y m a b = a
either_small false x y m a b = b

length_digits : (b k n : ℕ) → length (last_digits b k n) ≡ k
length_digits b zero n = refl
length_digits b (suc k) n =
    length-append (last_digits b k (n / b)) (hex_digit_ascii (n % b) ∷ []) ∙ ap (λ (m : ℕ). m + 1) (length_digits b k (n / b)) ∙ add-one k

fit_digits : (b k n : ℕ) → 0 < b → b ≤ 16 → Fit (last_digits b k n)
fit_digits b zero n pos few = none
fit_digits b (suc k) n pos few =
    let small : n % b < b = mod-lt n pos in
    fit_then (fit_digits b k (n / b) pos few) (more (either_small (ltb (n % b) 10) (48 + n % b) (87 + n % b) 4294967296 (omega arith) (omega arith)) none)

pub room_hex : (w : ℕ) → Room (hex w) 8
unfolding hex
room_hex w = record { fit = fit_digits 16 8 w (omega arith) (omega arith); long = omega (arith, length_digits 16 8 w) }

-- decimal digits: of any number, and of one below 10^(k + 1)
pub room_decimal : (n : ℕ) → Room (decimal n) 21
unfolding decimal places
room_decimal n =
    record {
      fit = fit_digits 10 (places n) n (omega arith) (omega arith);
      long = omega (arith, length_digits 10 (places n) n, lowest_bound (λ k. ltb n (10 ^ suc k)) 20);
    }

pub room_below : (n k : ℕ) → n < 10 ^ suc k → Room (decimal n) (suc k)
unfolding decimal places
room_below n k h =
    record {
      fit = fit_digits 10 (places n) n (omega arith) (omega arith);
      long = omega (arith, length_digits 10 (places n) n, lowest_first (λ k. ltb n (10 ^ suc k)) 20 k (lt-ltb n (10 ^ suc k) h));
    }

pub room_line : {name : List ℕ} {m : ℕ} (n : ℕ) → Room name m → Room (line name n) (m + 23)
unfolding line ascii
room_line n a =
    room_more (room_then (room_then (room_then a (room_written (ascii " ") 1 refl)) (room_decimal n)) (room_written (ascii "\n") 1 refl)) (omega arith)

-- it stands on the page whole, and its length is the answer
pub stands : {page text after : List ℕ} {next : ℕ} → Written page 0 text after next → Room text (length page) → take next after ≡ text
stands {page} {text} {after} {next} a r =
    let end : next ≡ length text =
    a.of_next ∙ onward_within (length page) 0 (length text) (omega (arith, r.long)) ∙ omega arith
    in
    ap (take next) (a.of_page ∙ logged_whole page text r.fit r.long)
    ∙ take_at text (drop (length text) page) next (sym end)
