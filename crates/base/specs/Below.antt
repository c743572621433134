-- Every number below n: a test of each, a sum over them, a list of them. Each counts up from 0, as the code does.
use Rattle.std.specs.Prelude.{ℕ, zero, suc, ◌+◌, Bool, true, false, ◌&&◌, List, [], ◌∷◌, ◌++◌}

-- whether the test passes at each number below n
unfoldable pub all_below : (ℕ → Bool) → ℕ → Bool
all_below f zero = true
all_below f (suc n) = all_below f n && f n

-- f 0 + f 1 + .. + f (n - 1)
unfoldable pub sum_below : (ℕ → ℕ) → ℕ → ℕ
sum_below f zero = 0
sum_below f (suc n) = sum_below f n + f n

-- the list f 0, f 1, .. f (n - 1)
unfoldable pub list_below : (ℕ → ℕ) → ℕ → List ℕ
list_below f zero = []
list_below f (suc n) = list_below f n ++ (f n ∷ [])

-- the lowest number from k on, among n of them, that passes the test, or k + n where none does. It stops at the first that passes
unfoldable pub lowest_from : (ℕ → Bool) → ℕ → ℕ → ℕ
lowest_from f k zero = k
lowest_from f k (suc n) = elim (f k) [ true ↦ k | false ↦ lowest_from f (suc k) n ]

-- the lowest number below n that passes the test, or n where none does
unfoldable pub lowest : (ℕ → Bool) → ℕ → ℕ
lowest f n = lowest_from f 0 n
