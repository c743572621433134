-- The order of visiting: for lowest first and rotating alike it has N places, each input below N stands at one of them, and at one only.
-- Place k holds the first input plus k, wrapped round past N − 1; so input i stands at i less the first, wrapped the other way.
-- Assumes nothing.
use Prim.Native.Nat.{ℕ, ◌+◌, ◌-◌, ◌%◌, ◌≤◌, ◌<◌}
use native.Mathlib.Nat.{mod-lt, mod-eq_of_lt, mod-eq-sub-mod}
use native.Mathlib.Omega.{arith}
use mathlib.Core.Path.{◌≡◌, sym, ◌∙◌}
use mathlib.Core.Logic.{⊎_elim, ◌≢◌}
use mathlib.Core.Bool.{Bool, true, false}
use mathlib.Core.List.{List}
use lib.ListN.{length, get_or}
use Rattle.base.proofs.Order.{le_or_lt}
use Rattle.base.proofs.Listed.{length_listed, listed_at}
use Rattle.queues.specs.Turn.{rotates, first_of, turn}

-- a list in which every input below N stands, once, and nothing else
pub record Round (ports : ℕ) (inputs : List ℕ) : Type 0 where
  pub below : (u : ℕ) → u < length inputs → get_or inputs u 0 < ports
  pub visits : (i : ℕ) → i < ports → (u : ℕ) × (u < length inputs) × (get_or inputs u 0 ≡ i)
  pub apart : (u w : ℕ) → u < w → w < length inputs → get_or inputs u 0 ≢ get_or inputs w 0

-- a sum of two numbers up to N, wrapped
wrap_none : (n x : ℕ) → x < n → x % n ≡ x
wrap_none n x h = mod-eq_of_lt h

wrap_once : (n x : ℕ) → n ≤ x → x < n + n → x % n ≡ x - n
wrap_once n x h l = mod-eq-sub-mod h ∙ mod-eq_of_lt (omega arith)

pub first_below : (rotating : Bool) (ports slot : ℕ) → 1 ≤ ports → first_of rotating ports slot < ports
unfolding first_of
first_below true ports slot h = mod-lt slot h
first_below false ports slot h = h

module _ (order ports slot : ℕ) where
  pub turn_length : length (turn order ports slot) ≡ ports
  unfolding turn
  turn_length = length_listed (λ k. (first_of (rotates order) ports slot + k) % ports) ports

  pub turn_at : (u : ℕ) → u < ports → get_or (turn order ports slot) u 0 ≡ (first_of (rotates order) ports slot + u) % ports
  unfolding turn
  turn_at u h = listed_at (λ k. (first_of (rotates order) ports slot + k) % ports) ports u h

  -- every place holds an input
  pub turn_below : (u : ℕ) → u < ports → get_or (turn order ports slot) u 0 < ports
  turn_below u h = omega (arith, turn_at u h, mod-lt (first_of (rotates order) ports slot + u) {m = ports} (omega arith))

  -- every input has a place
  pub turn_visits : (i : ℕ) → i < ports → (u : ℕ) × (u < length (turn order ports slot)) × (get_or (turn order ports slot) u 0 ≡ i)
  turn_visits i h =
      let first = first_of (rotates order) ports slot in
      let long = turn_length in
      let small = first_below (rotates order) ports slot (omega arith) in
      ⊎_elim
      (λ (l : first ≤ i).
      let at : (first + (i - first)) % ports ≡ first + (i - first) = wrap_none ports (first + (i - first)) (omega arith) in
      (i - first, omega arith, turn_at (i - first) (omega arith) ∙ at ∙ omega arith))
      (λ (l : i < first).
      let u = i + ports - first in
      let at : (first + u) % ports ≡ first + u - ports = wrap_once ports (first + u) (omega arith) (omega arith) in
      (u, omega arith, turn_at u (omega arith) ∙ at ∙ omega arith))
      (le_or_lt first i)

  -- and one only
  pub turn_apart : (u w : ℕ) → u < w → w < ports → get_or (turn order ports slot) u 0 ≢ get_or (turn order ports slot) w 0
  turn_apart u w l h e =
      let first = first_of (rotates order) ports slot in
      let small = first_below (rotates order) ports slot (omega arith) in
      let same : (first + u) % ports ≡ (first + w) % ports = sym (turn_at u (omega arith)) ∙ e ∙ turn_at w h in
      ⊎_elim
      (λ (a : ports ≤ first + u).
      omega (arith, wrap_once ports (first + u) a (omega arith), wrap_once ports (first + w) (omega arith) (omega arith)))
      (λ (a : first + u < ports).
      ⊎_elim
      (λ (b : ports ≤ first + w). omega (arith, wrap_none ports (first + u) a, wrap_once ports (first + w) b (omega arith)))
      (λ (b : first + w < ports). omega (arith, wrap_none ports (first + u) a, wrap_none ports (first + w) b))
      (le_or_lt ports (first + w)))
      (le_or_lt ports (first + u))

  pub turn_round : Round ports (turn order ports slot)
  turn_round =
      let long = turn_length in
      record { below = λ u h. turn_below u (omega arith); visits = turn_visits; apart = λ u w l h. turn_apart u w l (omega arith) }
