-- Writing a trace (document 01, "The trace file" and "Refusal numbers") from header words and three lent tables.
use Rattle.std.specs.Prelude.{ℕ, zero, suc, ◌*◌, Bool, ◌&&◌, List, [], ◌∷◌, ◌++◌, length, get_or, drop, leb, eqb, Result}
use Rattle.base.specs.Digits.{spell}
use Rattle.base.specs.declared.Refusal.{Refusal}
use Rattle.base.specs.Refusal.{unless, ◌⨟◌, judged}
use Rattle.layout.specs.declared.Header.{Header}
use Rattle.layout.specs.Header.{header_refusal, capacity_count, capacities_at, slot_counts_at, arrivals_at, total_of}
use Rattle.layout.specs.Tables.{tables_refusal}

-- each table is as long as the header words make it: the capacities, a count for each slot, two bytes for each arrival
unfoldable pub lengths_right : Header → List ℕ → List ℕ → List ℕ → Bool
lengths_right h caps counts ports = eqb (length caps) (capacity_count h) && (eqb (length counts) h.slots && eqb (length ports) (2 * h.arrivals))

-- the refusals 9 to 11 of the lent tables
unfoldable pub lent_refusal : Header → List ℕ → List ℕ → List ℕ → ℕ
lent_refusal h caps counts ports = tables_refusal h (λ k. get_or caps k 0) (λ t. get_or counts t 0) (λ b. get_or ports b 0)

-- the refusals 2 to 7, 17, 9, 10, 11, 18 in their order; 0 where the trace is written. `room` is the output's length
unfoldable pub body_refusal : Header → List ℕ → List ℕ → List ℕ → ℕ → ℕ
body_refusal h caps counts ports room =
    unless (lengths_right h caps counts ports) 17
    ⨟ lent_refusal h caps counts ports
    ⨟ unless (leb (total_of h) room) 18

unfoldable pub writing : Header → List ℕ → List ℕ → List ℕ → ℕ → ℕ
writing h caps counts ports room = header_refusal h ⨟ body_refusal h caps counts ports room

-- the header's ten words: its six numbers, the three offsets and the total
unfoldable pub header_words : Header → List ℕ
header_words h =
    h.model
    ∷ (h.order
    ∷ (h.ports
    ∷ (h.speedup ∷ (h.slots ∷ (h.arrivals ∷ (capacities_at ∷ (slot_counts_at h ∷ (arrivals_at h ∷ (total_of h ∷ [])))))))))

-- the whole file: 32 bits for each word of the header, 16 for each capacity and each slot count, and the arrivals' ports
unfoldable pub file : Header → List ℕ → List ℕ → List ℕ → List ℕ
file h caps counts ports = spell 4 (header_words h) ++ (spell 2 caps ++ (spell 2 counts ++ ports))

-- what the output holds afterwards: the file and then the bytes beyond as they were, or all of it as it was
unfoldable pub out_of : ℕ → List ℕ → List ℕ → List ℕ
out_of zero f out = f ++ drop (length f) out
out_of (suc n) f out = out

-- the answer: the total where nothing is refused, and else the first refusal
unfoldable pub written : Header → List ℕ → List ℕ → List ℕ → List ℕ → Result ℕ Refusal
written h caps counts ports out = judged (writing h caps counts ports (length out)) (total_of h)

unfoldable pub written_out : Header → List ℕ → List ℕ → List ℕ → List ℕ → List ℕ
written_out h caps counts ports out = out_of (writing h caps counts ports (length out)) (file h caps counts ports) out
