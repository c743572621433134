-- What a writer got, known by another name.
-- Assumes nothing.
use Rattle.std.proofs.Common.{ℕ, ◌≡◌, List, Option, OnOk, subst}
use Rattle.std.specs.Prelude.{Result}
use Rattle.std.specs.Io.KnownBytes.{Appends}

pub appends_same : {T E : Type 0} (r : Result T E) (before after : Option (List ℕ)) {vs ws : List ℕ} → vs ≡ ws → OnOk r (Appends before after vs) → OnOk r (Appends before after ws)
appends_same r before after e a = subst (λ (t : List ℕ). OnOk r (Appends before after t)) e a
