-- The answer of a search for the lowest number below n that will do. The definitions say n where none will do, the code says none.
use Rattle.std.specs.Prelude.{ℕ, ◌≡◌, ◌<◌, Option, MatchOption}

abbrev pub FoundBelow : ℕ → ℕ → Option ℕ → Type 0
FoundBelow n k r = MatchOption r (k ≡ n) (λ j. (j ≡ k) × (j < n))
