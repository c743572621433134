-- What was read where no read failed: the input's first bytes, as many as the buffer holds.
-- Assumes nothing.
use Rattle.std.proofs.Common.{◌≡◌, ℕ, ◌≤◌, ◌<◌, List, [], ◌++◌, Option, None, Some, IfSome, Result, Ok, OnOk, arith, length, take, sym, ap, ◌∙◌, subst, append-nil, length-take-le, take_all}
use Rattle.std.proofs.lemmas.List.{take_at}
use Rattle.std.proofs.lemmas.Result.{on_ok_weaker}
use Rattle.std.specs.Io.KnownBytes.{Appends, Consumes, IsAtEnd}
use Rattle.base.proofs.Order.{le_or_lt}
use mathlib.Core.Logic.{⊎_elim}

first_of : (s left b : List ℕ) (n m : ℕ) → length b ≡ m → n ≤ length b → s ≡ take n b ++ left → (n < length b → left ≡ []) → take n b ≡ take m s
first_of s left b n m long within e end =
    let taken : length (take n b) ≡ n = length-take-le n b within in
    ⊎_elim
    (λ (full : length b ≤ n). sym (ap (take m) e ∙ take_at (take n b) left m (omega arith)))
    (λ (short : n < length b).
    let all : s ≡ take n b = e ∙ ap (λ (l : List ℕ). take n b ++ l) (end short) ∙ append-nil (take n b) in
    let few : length s ≤ m = omega (arith, ap length all) in
    sym (take_all m s few ∙ all))
    (le_or_lt (length b) n)

-- what is the same of any input that long and of its first m bytes is the same of every input
every : (m : ℕ) (f : List ℕ → List ℕ) → ((s : List ℕ) → m ≤ length s → f s ≡ f (take m s)) → (s : List ℕ) → f s ≡ f (take m s)
every m f same s =
    ⊎_elim (λ (long : m ≤ length s). same s long) (λ (short : length s < m). ap f (sym (take_all m s (omega arith)))) (le_or_lt m (length s))

-- so what is written of these bytes is written of the whole input
of_first : (known left : Option (List ℕ)) (b : List ℕ) (n m : ℕ) → length b ≡ m → n ≤ length b → Consumes known left (take n b) → (n < length b → IsAtEnd left)
    → (a c : Option (List ℕ)) (f : List ℕ → List ℕ) → ((s : List ℕ) → m ≤ length s → f s ≡ f (take m s)) → Appends a c (f (take n b)) → IfSome known (λ s. Appends a c (f s))
of_first None left b n m long within p end a c f same w = tt
of_first (Some s) None b n m long within p end a c f same w = absurd p
of_first (Some s) (Some l) b n m long within p end a c f same w =
    subst (Appends a c) (ap f (first_of s l b n m long within p end) ∙ sym (every m f same s)) w

-- the same where neither the read nor the write failed
pub whole_input : {U E V D : Type 0} (known left : Option (List ℕ)) (b : List ℕ) (n m : ℕ) (read : Result U E) (u : U) (written : Result V D)
    → length b ≡ m → n ≤ length b → Consumes known left (take n b) → OnOk read (n < length b → IsAtEnd left) → read ≡ Ok u
    → (a c : Option (List ℕ)) (f : List ℕ → List ℕ) → ((s : List ℕ) → m ≤ length s → f s ≡ f (take m s))
    → OnOk written (Appends a c (f (take n b))) → OnOk written (IfSome known (λ s. Appends a c (f s)))
whole_input known left b n m read u written long within p end ok a c f same w =
    let ended : (n < length b → IsAtEnd left) = subst (λ r. OnOk r (n < length b → IsAtEnd left)) ok end in
    on_ok_weaker written (of_first known left b n m long within p ended a c f same) w
