-- The two ways out that every function here has: a lent run's length is wrong, so nothing is touched, or it is right, and then the rest decides. And runs of few words.
-- Assumes nothing.
use Prim.Native.Nat.{ℕ, zero, suc}
use mathlib.Core.Path.{◌≡◌, refl, sym, ap, ◌∙◌}
use mathlib.Core.Bool.{Bool, true, false}
use mathlib.Core.List.{List, [], ◌∷◌}
use lib.ListN.{length, set}
use borrow.Author.Tests.{eqb-true}
use native.Mathlib.Omega.{arith}
use Rattle.std.specs.Prelude.{Result, IsErr, IsErrAnd}
use Rattle.std.proofs.lemmas.Result.{err_from_is_err_and}
use Rattle.base.specs.declared.Refusal.{Refusal}
use Rattle.base.specs.declared.Refusal.TheVariants.{FewerThan40Bytes, Model, Order, Ports, Speedup, Slots, Arrivals, Places, Capacity, SlotCounts, ArrivalPort, ShortLog, SwitchValue, AllArrived, LastSlot, DrainLimit, TableLength, ShortOutput, LentLength}
use Rattle.base.specs.Refusal.{◌⨟◌, number, judged, judged_with, refusal_of, refusal_with, tested, unless}
use Rattle.base.proofs.RefusalLaws.{unless_zero, chain_zero, stops, goes_on}
use Rattle.layout.specs.declared.Header.{Header}
use Rattle.trace_write.specs.Writing.{writing, file, out_of, written, written_out}
use Rattle.run.specs.declared.Counts.{Counts}
use Rattle.layout.specs.Header.{total_of}
use Rattle.run.specs.Run.{running, log_as, counts_of, no_counts, whole, ran, ran_log}
use Rattle.image.proofs.ImageLaws.{fills}
use Rattle.vaznirokh.specs.Library.{length_number, settled}

-- the number of a length's test
pub tested_length : (b : Bool) → refusal_of (tested b LentLength) ≡ unless b 30
unfolding tested refusal_of number unless
tested_length true = refl
tested_length false = refl

-- 0 says that the length is right
pub right_length : (n : ℕ) (run : List ℕ) → length_number n run ≡ 0 → length run ≡ n
unfolding length_number
right_length n run e = eqb-true (length run) n (unless_zero _ 29 e)

pub both_right : (n : ℕ) (p q : List ℕ) (m k : ℕ) → n ≡ (length_number m p ⨟ length_number k q) → n ≡ 0 → (length p ≡ m) × (length q ≡ k)
both_right n p q m k e z =
    let parts = chain_zero _ _ (sym e ∙ z) in
    (right_length m p parts.0, right_length k q parts.1)

-- after a refusal a lent run holds what it held
pub kept : (n : ℕ) (new held : List ℕ) → (n ≡ 0 → ⊥) → held ≡ settled n new held
unfolding settled
kept zero new held ne = absurd (ne refl)
kept (suc n) new held ne = refl

-- l is the number that the lengths give, and r what the rest answers
module _ (l r : ℕ) where
  pub stopped : (n : ℕ) → n ≡ l → (n ≡ 0 → ⊥) → n ≡ (l ⨟ r)
  stopped n e ne = e ∙ sym (stops l r (λ z. ne (e ∙ z)))

  pub untouched : (n : ℕ) (new held : List ℕ) → n ≡ l → (n ≡ 0 → ⊥) → held ≡ settled (l ⨟ r) new held
  untouched n new held e ne = kept (l ⨟ r) new held (λ z. ne (stopped n e ne ∙ z))

  pub went_on : (n m : ℕ) → n ≡ l → n ≡ 0 → m ≡ r → m ≡ (l ⨟ r)
  went_on n m e z a = a ∙ sym (goes_on l r (sym e ∙ z))

  pub filled : (n m : ℕ) (new held after : List ℕ) → n ≡ l → n ≡ 0 → m ≡ r → after ≡ settled m new held → after ≡ settled (l ⨟ r) new held
  filled n m new held after e z a f = f ∙ ap (λ (k : ℕ). settled k new held) (went_on n m e z a)

-- a refusal's number is not 0
pub number_some : (e : Refusal) → number e ≡ 0 → ⊥
unfolding number
number_some FewerThan40Bytes h = absurd (omega arith)
number_some Model h = absurd (omega arith)
number_some Order h = absurd (omega arith)
number_some Ports h = absurd (omega arith)
number_some Speedup h = absurd (omega arith)
number_some Slots h = absurd (omega arith)
number_some Arrivals h = absurd (omega arith)
number_some Places h = absurd (omega arith)
number_some Capacity h = absurd (omega arith)
number_some SlotCounts h = absurd (omega arith)
number_some ArrivalPort h = absurd (omega arith)
number_some ShortLog h = absurd (omega arith)
number_some SwitchValue h = absurd (omega arith)
number_some AllArrived h = absurd (omega arith)
number_some LastSlot h = absurd (omega arith)
number_some DrainLimit h = absurd (omega arith)
number_some TableLength h = absurd (omega arith)
number_some ShortOutput h = absurd (omega arith)
number_some LentLength h = absurd (omega arith)

-- the exit of a `?`, as a number
pub exit_number : {A : Type 0} (r : Result A Refusal) (e : Refusal) → IsErr r × IsErrAnd r (λ x. x ≡ e) → refusal_of r ≡ number e
unfolding refusal_of
exit_number r e h = let p = err_from_is_err_and r h.1 in ap refusal_of p.1 ∙ ap number p.2

-- what a call hands on where a lent run's length is wrong
module _ {A : Type 0} (l r : ℕ) (answer : Result A Refusal) (e : Refusal) (exit : IsErr answer × IsErrAnd answer (λ x. x ≡ e)) (wrong : number e ≡ l) where
  pub wrong_length : refusal_of answer ≡ (l ⨟ r)
  wrong_length = exit_number answer e exit ∙ stopped l r (number e) wrong (number_some e)

  pub wrong_kept : (new held : List ℕ) → held ≡ settled (l ⨟ r) new held
  wrong_kept new held = untouched l r (number e) new held wrong (number_some e)

-- and where the lengths are right: the rest's refusal, or its answer
module _ {A : Type 0} (l r : ℕ) (right : 0 ≡ l) (answer : Result A Refusal) (e : Refusal) (exit : IsErr answer × IsErrAnd answer (λ x. x ≡ e)) (rest : number e ≡ r) where
  pub rest_refused : refusal_of answer ≡ (l ⨟ r)
  rest_refused = exit_number answer e exit ∙ went_on l r 0 (number e) right refl rest

  pub rest_kept : (new held : List ℕ) → held ≡ settled (l ⨟ r) new held
  rest_kept new held = filled l r 0 (number e) new held held right refl rest (kept (number e) new held (number_some e))

module _ (l r : ℕ) (right : 0 ≡ l) (rest : 0 ≡ r) where
  pub all_right : 0 ≡ (l ⨟ r)
  all_right = went_on l r 0 0 right refl rest

  pub all_filled : (new held after : List ℕ) → after ≡ new → after ≡ settled (l ⨟ r) new held
  unfolding settled
  all_filled new held after e = filled l r 0 0 new held after right refl rest e

-- two lengths, of which the first is wrong, the second, or none
pub first_wrong : (l m : ℕ) (e : Refusal) → number e ≡ l → number e ≡ (l ⨟ m)
first_wrong l m e h = stopped l m (number e) h (number_some e)

pub second_wrong : (l m : ℕ) (e : Refusal) → 0 ≡ l → number e ≡ m → number e ≡ (l ⨟ m)
second_wrong l m e z h = went_on l m 0 (number e) z refl h

-- a run of one word
pub one_word : (run : List ℕ) (v w : ℕ) → length run ≡ 1 → v ≡ w → set run 0 v ≡ w ∷ []
one_word run v w l e = fills run (v ∷ []) l ∙ ap (λ (x : ℕ). x ∷ []) e

-- what the writer leaves is settled by its own number
pub writer_settles : (h : Header) (caps counts ports out : List ℕ)
    → written_out h caps counts ports out ≡ settled (refusal_of (written h caps counts ports out)) (written_out h caps counts ports out) out
unfolding written written_out
writer_settles h caps counts ports out = go (writing h caps counts ports (length out))
  where
    go : (n : ℕ) → out_of n (file h caps counts ports) out ≡ settled (refusal_of (judged n (total_of h))) (out_of n (file h caps counts ports) out) out
    go zero = unfold judged out_of refusal_of settled in refl
    go (suc n) = unfold judged out_of refusal_of in kept _ out out (number_some _)

-- what a run leaves in the log is settled by its own number
pub run_settles : (trace log : List ℕ) → ran_log trace log ≡ settled (refusal_with (ran trace log)) (ran_log trace log) log
unfolding ran ran_log
run_settles trace log = go (running trace (length log)) (counts_of (whole trace).switch) no_counts
  where
    go : (n : ℕ) (a b : Counts) → log_as n trace log ≡ settled (refusal_with (judged_with n a b)) (log_as n trace log) log
    go zero a b = unfold judged_with refusal_with settled in refl
    go (suc n) a b = unfold judged_with refusal_with log_as in kept _ log log (number_some _)
