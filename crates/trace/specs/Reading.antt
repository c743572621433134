-- Reading a trace (document 01, "The trace file" and "Refusal numbers"), over any list of bytes.
use Rattle.std.specs.Prelude.{ℕ, ◌+◌, ◌*◌, Bool, ◌&&◌, List, Result, length, leb, eqb}
use Rattle.base.specs.Digits.{byte, number}
use Rattle.base.specs.declared.Refusal.{Refusal}
use Rattle.base.specs.Refusal.{unless, ◌⨟◌, judged}
use Rattle.layout.specs.declared.Header.{Header}
use Rattle.layout.specs.declared.Places.{Places}
use Rattle.layout.specs.Header.{header_refusal, capacities_at, places_of}
use Rattle.layout.specs.Tables.{tables_refusal}

-- 16 bits and 32 bits from a place on, low byte first
abbrev pub half : List ℕ → ℕ → ℕ
half s p = number 2 s p

abbrev pub word : List ℕ → ℕ → ℕ
word s p = number 4 s p

-- the header's first six words, byte 0 to byte 23
unfoldable pub header_of : List ℕ → Header
header_of s =
    record {
      model = word s 0;
      order = word s 4;
      ports = word s 8;
      speedup = word s 12;
      slots = word s 16;
      arrivals = word s 20;
    }

-- entry k of the capacities, which start at the offset in byte 24
unfoldable pub capacity : List ℕ → ℕ → ℕ
capacity s k = half s (word s 24 + 2 * k)

-- the arrival count of slot t; the slot counts start at the offset in byte 28
unfoldable pub slot_count : List ℕ → ℕ → ℕ
slot_count s t = half s (word s 28 + 2 * t)

-- byte b of the arrivals, which start at the offset in byte 32
unfoldable pub port_byte : List ℕ → ℕ → ℕ
port_byte s b = byte s (word s 32 + b)

-- the offsets and the total are what the counts make them, and the slice's length is the total
unfoldable pub places_right : List ℕ → Places → Bool
places_right s p =
    eqb (word s 24) capacities_at
    && (eqb (word s 28) p.counts
    && (eqb (word s 32) p.arrivals && (eqb (word s 36) p.total && eqb (length s) p.total)))

-- the refusals 1 to 11 in their order, 0 for an accepted trace
unfoldable pub body_refusal : List ℕ → Header → ℕ
body_refusal s h = unless (places_right s (places_of h)) 8 ⨟ tables_refusal h (capacity s) (slot_count s) (port_byte s)

unfoldable pub reading : List ℕ → ℕ
reading s = unless (leb 40 (length s)) 1 ⨟ header_refusal (header_of s) ⨟ body_refusal s (header_of s)

-- the header's numbers of an accepted trace, or the first refusal
unfoldable pub verdict : List ℕ → Result Header Refusal
verdict s = judged (reading s) (header_of s)
