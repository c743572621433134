-- Text put behind text on a page, and text known by another name; what `Puts` says fixes the place and the bytes.
-- Assumes nothing.
use Prim.Native.Nat.{ℕ}
use mathlib.Core.Path.{◌≡◌, ◌∙◌}
use mathlib.Core.List.{List, ◌++◌}
use Rattle.text.specs.declared.Page.{Page}
use Rattle.text.specs.Page.{Puts}
use Rattle.text.proofs.WrittenLaws.{then, same}
use Rattle.text.proofs.Unique.{written_one}

pub puts_then : {page mid after : Page} {vs ws : List ℕ} → Puts page vs mid → Puts mid ws after → Puts page (vs ++ ws) after
puts_then a b = record { same_reference = b.same_reference ∙ a.same_reference; written = then a.written b.written }

pub puts_same : {page after : Page} {vs ws : List ℕ} → vs ≡ ws → Puts page vs after → Puts page ws after
puts_same e a = record { same_reference = a.same_reference; written = same e a.written }

pub puts_one : {page after after' : Page} {text : List ℕ} → Puts page text after → Puts page text after' → ◌≡◌ {A = ℕ × List ℕ} (after.at, after.bytes.now) (after'.at, after'.bytes.now)
puts_one a b = written_one a.written b.written
