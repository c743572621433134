-- The definitions of `Text` at some numbers, each computed.
-- Assumes nothing.
use mathlib.Core.Path.{◌≡◌, refl}
use Rattle.base.specs.Below.{lowest, lowest_from}
use Rattle.text.specs.Text.{ascii, places, decimal, hex, line}

pub decimals : (decimal 0 ≡ ascii "0") × (decimal 9 ≡ ascii "9") × (decimal 10 ≡ ascii "10") × (decimal 200 ≡ ascii "200") × (decimal 4294967295 ≡ ascii "4294967295")
unfolding ascii decimal places lowest lowest_from
decimals = (refl, refl, refl, refl, refl)

pub hexes : (hex 0 ≡ ascii "00000000") × (hex 268500991 ≡ ascii "1000ffff") × (hex 4294967295 ≡ ascii "ffffffff")
unfolding ascii hex
hexes = (refl, refl, refl)

pub lines : (line (ascii "per-thousand") 200 ≡ ascii "per-thousand 200\n")
unfolding ascii line decimal places lowest lowest_from
lines = refl
