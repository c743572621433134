-- Lines of text, as bytes, and how they come to stand on a lent page: as the log's words do (queues/specs/Log), so that what the page has no room for is left out.
use Rattle.std.specs.Prelude.{ℕ, suc, ◌+◌, ◌^◌, ◌≡◌, List, [], ◌∷◌, ◌++◌, length, ltb}
use Prim.Native.Char.{code}
use Prim.Native.String.{String}
use Prim.Native.String as string
use Rattle.base.specs.Below.{lowest}
use Rattle.io.specs.Digits.{last_digits}
use Rattle.queues.specs.Log.{logged, onward}

-- `text` stands on `page` from the place `at` on, and `next` is the place behind it
pub record Written (page : List ℕ) (at : ℕ) (text after : List ℕ) (next : ℕ) : Type 0 where
  pub of_page : after ≡ logged page at text
  pub of_next : next ≡ onward (length page) at (length text)

-- a quoted text as bytes, one for each character
unfoldable pub ascii : String → List ℕ
ascii string.[] = []
ascii (string.◌∷◌ c s) = code c ∷ ascii s

-- the fewest decimal digits, at least one, that hold a number below 10^20
unfoldable pub places : ℕ → ℕ
places n = lowest (λ k. ltb n (10 ^ suc k)) 20 + 1

-- a number in decimal
unfoldable pub decimal : ℕ → List ℕ
decimal n = last_digits 10 (places n) n

-- eight hexadecimal digits
unfoldable pub hex : ℕ → List ℕ
hex w = last_digits 16 8 w

-- a name, a space, a number, and the line's end
unfoldable pub line : List ℕ → ℕ → List ℕ
line name n = name ++ ascii " " ++ decimal n ++ ascii "\n"
