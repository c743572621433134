-- A number of k bytes, least significant byte first, as the trace file holds it.
use Rattle.std.specs.Prelude.{ℕ, zero, suc, ◌+◌, ◌*◌, ◌/◌, ◌%◌, List, [], ◌∷◌, ◌++◌, get_or}

-- the byte at a place, and 0 past the end
abbrev pub byte : List ℕ → ℕ → ℕ
byte s p = get_or s p 0

-- the number that the k bytes from a place on spell
unfoldable pub number : ℕ → List ℕ → ℕ → ℕ
number zero s p = 0
number (suc k) s p = byte s p + 256 * number k s (suc p)

-- the k bytes that spell a number
unfoldable pub digits : ℕ → ℕ → List ℕ
digits zero v = []
digits (suc k) v = v % 256 ∷ digits k (v / 256)

-- a table: k bytes for each number, one number after the other
unfoldable pub spell : ℕ → List ℕ → List ℕ
spell k [] = []
spell k (v ∷ vs) = digits k v ++ spell k vs
