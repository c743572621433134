-- An input longer than any trace. It is refused, by a number of its header or else by 8, so its first 17,481 bytes decide: a program that reads no more of it gives
-- the answer of the whole.
-- Assumes nothing.
use Prim.Native.Nat.{ℕ, zero, suc, ◌+◌, ◌*◌, ◌≤◌, ◌<◌}
use native.Mathlib.Omega.{arith}
use mathlib.Core.Path.{◌≡◌, refl, sym, ap, ap₂, ◌∙◌}
use mathlib.Core.Logic.{⊎_elim, ◌≢◌}
use mathlib.Core.Bool.{true, false}
use mathlib.Core.List.{List}
use lib.ListN.{length, take}
use lib.Seq.{get_or-take, length-take-le}
use borrow.Author.Tests.{le-leb}
use Rattle.base.specs.Digits.{number}
use Rattle.base.specs.Refusal.{◌⨟◌}
use Rattle.base.proofs.Cases.{true_or_false, same_or_not}
use Rattle.base.proofs.RefusalLaws.{stops, goes_on, passed, failed}
use Rattle.layout.specs.declared.Header.{Header}
use Rattle.layout.specs.Header.{header_refusal, places_of}
use Rattle.trace.specs.Reading.{header_of, places_right, body_refusal, reading}
use Rattle.layout.proofs.HeaderLaws.{places_small}
use Rattle.trace.proofs.ReadingLaws.{right}

module _ (s : List ℕ) (long : 17480 < length s) where
  -- its length is no trace's
  places_wrong : (h : Header) → header_refusal h ≡ 0 → places_right s (places_of h) ≡ false
  unfolding places_of
  places_wrong h z =
      ⊎_elim
      (λ (e : places_right s (places_of h) ≡ true).
      absurd (let same = (right s (places_of h) e).length in omega (arith, places_small h z)))
      (λ (e : places_right s (places_of h) ≡ false). e)
      (true_or_false (places_right s (places_of h)))

  body_wrong : (h : Header) → header_refusal h ≡ 0 → body_refusal s h ≡ 8
  unfolding body_refusal
  body_wrong h z = failed _ 7 _ (places_wrong h z)

  pub long_refused : reading s ≡ (header_refusal (header_of s) ⨟ 8)
  unfolding reading
  long_refused =
      let n = header_refusal (header_of s) in
      passed _ 1 _ (le-leb 40 (length s) (omega arith))
      ∙ ⊎_elim
      (λ (z : n ≡ 0). goes_on n _ z ∙ body_wrong (header_of s) z ∙ sym (goes_on n 8 z))
      (λ (z : n ≢ 0). stops n _ z ∙ sym (stops n 8 z))
      (same_or_not n 0)

-- a number within the first n bytes
number_taken : (k : ℕ) (s : List ℕ) (n p : ℕ) → p + k ≤ n → number k (take n s) p ≡ number k s p
unfolding number
number_taken zero s n p h = refl
number_taken (suc k) s n p h =
    ap₂ (λ (a b : ℕ). a + 256 * b) (get_or-take n s p 0 (omega arith)) (number_taken k s n (suc p) (omega arith))

header_taken : (s : List ℕ) (n : ℕ) → 24 ≤ n → header_of (take n s) ≡ header_of s
unfolding header_of
header_taken s n h =
    λ i.
    record {
      model = number_taken 4 s n 0 (omega arith) i;
      order = number_taken 4 s n 4 (omega arith) i;
      ports = number_taken 4 s n 8 (omega arith) i;
      speedup = number_taken 4 s n 12 (omega arith) i;
      slots = number_taken 4 s n 16 (omega arith) i;
      arrivals = number_taken 4 s n 20 (omega arith) i;
    }

pub first_bytes_decide : (s : List ℕ) → 17480 < length s → reading s ≡ reading (take 17481 s)
first_bytes_decide s long =
    let taken : length (take 17481 s) ≡ 17481 = length-take-le 17481 s (omega arith) in
    long_refused s long
    ∙ ap (λ (h : Header). header_refusal h ⨟ 8) (sym (header_taken s 17481 (omega arith)))
    ∙ sym (long_refused (take 17481 s) (omega arith))
