-- What the functions of `image` ensure fixes all that they answer and leave: two outcomes that a contract allows are equal.
-- Assumes nothing.
use mathlib.Core.Path.{◌≡◌, sym, ◌∙◌}
use Prim.Native.Nat.{ℕ}
use mathlib.Core.List.{List}
use lib.Seq.{sets}
use Rattle.switch.specs.declared.Switch.{Switch}
use Rattle.image.specs.Image.{switch_of, image_of}

-- what a call of `switch_of` may answer
pub switch_of_unique : (state : List ℕ) (r₁ r₂ : Switch) → r₁ ≡ switch_of state → r₂ ≡ switch_of state → r₁ ≡ r₂
switch_of_unique state r₁ r₂ a b = a ∙ sym b

-- what a call of `put_switch` may leave
pub put_switch_unique : (state : List ℕ) (s : Switch) (state₁ state₂ : List ℕ) → state₁ ≡ sets state 0 (image_of s) → state₂ ≡ sets state 0 (image_of s) → state₁ ≡ state₂
put_switch_unique state s state₁ state₂ a b = a ∙ sym b
