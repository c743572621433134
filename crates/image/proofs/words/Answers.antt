-- `image::words` meets its contract.
-- Assumes nothing.
use Rattle.std.proofs.Common.{rules, ◌+◌, ◌≡◌, refl, ℕ, List}
use denote.Bor.{Bor}
use lib.ListN.{get_or}
use Rattle.image.specs.Image.{words}
use Rattle.base.proofs.Listed.{from_fn_listed}
use Rattle.image.proofs.words.Goals as goal

pub returns : goal.returns
unfolding words
returns g c =
    let a = c.args in
    from_fn_listed _ (λ (k : ℕ). get_or a.state.now (a.from + k) 0)
    (λ (p : Bor (List ℕ) × Bor ℕ). (p.0.now ≡ a.state.now) × (p.1.now ≡ a.from))
    (λ p i y q k r. (search rules, search rules)) _ _ _ (refl, refl) c.from_fn.ensures.items
