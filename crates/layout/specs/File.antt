-- A file that a header lays out, seen as its places.
use Rattle.std.specs.Prelude.{Result, Ok, Err}
use Rattle.base.specs.declared.Refusal.{Refusal}
use Rattle.layout.specs.declared.Places.{Places}
use Rattle.layout.specs.declared.file.File.{File}

unfoldable pub places_in : Result File Refusal → Result Places Refusal
places_in (Ok file) = Ok file.places
places_in (Err e) = Err e
