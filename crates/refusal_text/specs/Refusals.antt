-- A trace's refusal for a person: its number with the words of document 01's table.
use Rattle.std.specs.Prelude.{ℕ, cond, List, ◌++◌, eqb}
use Rattle.text.specs.Text.{ascii, decimal}

-- given exactly when
unfoldable pub words : ℕ → List ℕ
words n =
    cond (eqb n 1) (ascii "fewer than 40 bytes")
    (cond (eqb n 2) (ascii "model not allowed")
    (cond (eqb n 3) (ascii "order not allowed")
    (cond (eqb n 4) (ascii "ports not allowed")
    (cond (eqb n 5) (ascii "speedup not allowed")
    (cond (eqb n 6) (ascii "slots above 4,096")
    (cond (eqb n 7) (ascii "arrivals above 4,096")
    (cond (eqb n 8) (ascii "an offset or the total differs from what the counts make it, or the slice's length is not the total")
    (cond (eqb n 9) (ascii "a capacity not allowed")
    (cond (eqb n 10) (ascii "slot counts do not add up to arrivals")
    (cond (eqb n 11) (ascii "an arrival's port is N or more")
    (ascii "no refusal of a trace")))))))))))

unfoldable pub refusal_line : ℕ → List ℕ
refusal_line n = ascii "refused " ++ decimal n ++ ascii ": " ++ words n ++ ascii "\n"
