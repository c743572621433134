-- A page on which text is put behind text, and the place where the next one will stand.
use Rattle.std.specs.Prelude.{ℕ, ◌≡◌, List}
use Rattle.text.specs.Text.{Written}
use Rattle.text.specs.declared.Page.{Page}

-- it is the same lent page, and `text` was put at its place
pub record Puts (before : Page) (text : List ℕ) (after : Page) : Type 0 where
  pub same_reference : after.bytes.ghost_name ≡ before.bytes.ghost_name
  pub written : Written before.bytes.now before.at text after.bytes.now after.at
