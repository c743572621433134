-- What the library's functions ensure fixes all that they answer and leave in what was lent: two outcomes that a contract allows are equal.
-- Assumes nothing.
use Prim.Native.Nat.{ℕ}
use mathlib.Core.Path.{◌≡◌, sym, ◌∙◌}
use mathlib.Core.List.{List}
use Rattle.vaznirokh.specs.Library.{vaz_examine, vaz_run, vaz_run_log, vaz_run_counts, vaz_write, vaz_write_out, vaz_new, vaz_new_state, vaz_arrive, vaz_arrive_state, vaz_arrive_answer, vaz_close, vaz_close_state, vaz_drain, vaz_drain_state, vaz_drain_answer}

-- what a call of `vaz_examine` may answer
pub examine_unique : (trace : List ℕ) (r₁ r₂ : ℕ) → r₁ ≡ vaz_examine trace → r₂ ≡ vaz_examine trace → r₁ ≡ r₂
examine_unique trace r₁ r₂ a b = a ∙ sym b

-- what a call of `vaz_run` may answer, and leave in the log and the counts
pub run_unique : (trace log counts : List ℕ) (r₁ r₂ : ℕ) (log₁ log₂ counts₁ counts₂ : List ℕ)
    → (r₁ ≡ vaz_run trace log counts) × (log₁ ≡ vaz_run_log trace log counts) × (counts₁ ≡ vaz_run_counts trace log counts)
    → (r₂ ≡ vaz_run trace log counts) × (log₂ ≡ vaz_run_log trace log counts) × (counts₂ ≡ vaz_run_counts trace log counts)
    → (r₁ ≡ r₂) × (log₁ ≡ log₂) × (counts₁ ≡ counts₂)
run_unique trace log counts r₁ r₂ log₁ log₂ counts₁ counts₂ a b = (a.0 ∙ sym b.0, a.1 ∙ sym b.1, a.2 ∙ sym b.2)

-- what a call of `vaz_write` may answer, and leave in the output
pub write_unique : (header capacities counts arrivals out : List ℕ) (r₁ r₂ : ℕ) (out₁ out₂ : List ℕ)
    → (r₁ ≡ vaz_write header capacities counts arrivals out) × (out₁ ≡ vaz_write_out header capacities counts arrivals out)
    → (r₂ ≡ vaz_write header capacities counts arrivals out) × (out₂ ≡ vaz_write_out header capacities counts arrivals out)
    → (r₁ ≡ r₂) × (out₁ ≡ out₂)
write_unique header capacities counts arrivals out r₁ r₂ out₁ out₂ a b = (a.0 ∙ sym b.0, a.1 ∙ sym b.1)

-- what a call of `vaz_new` may answer, and leave in the switch's words
pub new_unique : (trace state : List ℕ) (r₁ r₂ : ℕ) (state₁ state₂ : List ℕ)
    → (r₁ ≡ vaz_new trace state) × (state₁ ≡ vaz_new_state trace state)
    → (r₂ ≡ vaz_new trace state) × (state₂ ≡ vaz_new_state trace state)
    → (r₁ ≡ r₂) × (state₁ ≡ state₂)
new_unique trace state r₁ r₂ state₁ state₂ a b = (a.0 ∙ sym b.0, a.1 ∙ sym b.1)

-- what a call of `vaz_arrive` may answer, and leave in the switch's words and the answer's
pub arrive_unique : (state : List ℕ) (input output : ℕ) (answer : List ℕ) (r₁ r₂ : ℕ) (state₁ state₂ answer₁ answer₂ : List ℕ)
    → (r₁ ≡ vaz_arrive state input output answer) × (state₁ ≡ vaz_arrive_state state input output answer) × (answer₁ ≡ vaz_arrive_answer state input output answer)
    → (r₂ ≡ vaz_arrive state input output answer) × (state₂ ≡ vaz_arrive_state state input output answer) × (answer₂ ≡ vaz_arrive_answer state input output answer)
    → (r₁ ≡ r₂) × (state₁ ≡ state₂) × (answer₁ ≡ answer₂)
arrive_unique state input output answer r₁ r₂ state₁ state₂ answer₁ answer₂ a b = (a.0 ∙ sym b.0, a.1 ∙ sym b.1, a.2 ∙ sym b.2)

-- what a call of `vaz_close` may answer, and leave in the switch's words
pub close_unique : (state : List ℕ) (r₁ r₂ : ℕ) (state₁ state₂ : List ℕ) → (r₁ ≡ vaz_close state) × (state₁ ≡ vaz_close_state state) → (r₂ ≡ vaz_close state) × (state₂ ≡ vaz_close_state state)
    → (r₁ ≡ r₂) × (state₁ ≡ state₂)
close_unique state r₁ r₂ state₁ state₂ a b = (a.0 ∙ sym b.0, a.1 ∙ sym b.1)

-- what a call of `vaz_drain` may answer, and leave in the switch's words and the answer's
pub drain_unique : (state : List ℕ) (limit : ℕ) (answer : List ℕ) (r₁ r₂ : ℕ) (state₁ state₂ answer₁ answer₂ : List ℕ)
    → (r₁ ≡ vaz_drain state limit answer) × (state₁ ≡ vaz_drain_state state limit answer) × (answer₁ ≡ vaz_drain_answer state limit answer)
    → (r₂ ≡ vaz_drain state limit answer) × (state₂ ≡ vaz_drain_state state limit answer) × (answer₂ ≡ vaz_drain_answer state limit answer)
    → (r₁ ≡ r₂) × (state₁ ≡ state₂) × (answer₁ ≡ answer₂)
drain_unique state limit answer r₁ r₂ state₁ state₂ answer₁ answer₂ a b = (a.0 ∙ sym b.0, a.1 ∙ sym b.1, a.2 ∙ sym b.2)
