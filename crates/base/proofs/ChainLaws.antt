-- A chain and a test in it as they are made in code whose answers are numbers, from what is known of their parts. (A chain by `?` has RefusalLaws.)
-- Assumes nothing.
use Prim.Native.Nat.{ℕ}
use mathlib.Core.Path.{◌≡◌, ap, ap₂, ◌∙◌}
use mathlib.Core.Bool.{Bool}
use Rattle.base.specs.Refusal.{unless, ◌⨟◌}

pub chained : {r a a' b b' : ℕ} → r ≡ (a ⨟ b) → a ≡ a' → b ≡ b' → r ≡ (a' ⨟ b')
chained e x y = e ∙ ap₂ ◌⨟◌ x y

pub tested : (n : ℕ) {r : ℕ} {b b' : Bool} → r ≡ unless b n → b ≡ b' → r ≡ unless b' n
tested n e x = e ∙ ap (λ (b : Bool). unless b n) x
