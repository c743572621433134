-- What `map_err` and `?` make of an answer that a number of the paper's table decides.
-- Assumes nothing.
use Prim.Native.Nat.{ℕ, zero, suc}
use native.Mathlib.Omega.{arith}
use mathlib.Core.Path.{◌≡◌, refl, ap}
use mathlib.Core.Bool.{Bool, true, false}
use Rattle.std.specs.Prelude.{Result, Ok, Err}
use Rattle.base.specs.declared.Refusal.{Refusal}
use Rattle.base.specs.declared.Refused.{Refused}
use Rattle.base.specs.Refusal.{numbered, tested, judged, judged_with}

-- where nothing is refused the answer is the value
pub given : {A : Type 0} (v : A) (n : ℕ) → n ≡ 0 → Ok v ≡ judged n v
unfolding judged
given v n e = rw e

pub test_holds : (u : Unit {0}) (b : Bool) (f : Refusal) → Ok u ≡ tested b f → b ≡ true
unfolding tested
test_holds u true f h = refl
test_holds u false f h = cc

-- the refusal alone, without what it hands back
pub alone : {A B : Type 0} (v : A) (b : B) (n : ℕ) (f : Refused B) → Err f ≡ judged_with n v b → Err f.refusal ≡ judged n v
unfolding judged judged_with
alone v b zero f h = cc
alone {B = B} v b (suc n) f h = let g : ◌≡◌ {A = Refused B} f (record { refusal = numbered (suc n); answer = b }) = cc in ap (λ (r : Refused B). Err r.refusal) g

-- and what it hands back
pub back : {A B : Type 0} (v : A) (b : B) (n : ℕ) (f : Refused B) → ◌≡◌ {A = Result A (Refused B)} (Err f) (judged_with n v b) → f.answer ≡ b
unfolding judged_with
back v b zero f h = cc
back {B = B} v b (suc n) f h = let g : ◌≡◌ {A = Refused B} f (record { refusal = numbered (suc n); answer = b }) = cc in ap (λ (r : Refused B). r.answer) g

-- a refusal is one of a number that is not 0
pub refuses_something : {A : Type 0} (v : A) (e : Refusal) (n : ℕ) → Err e ≡ judged n v → n ≡ 0 → ⊥
unfolding judged
refuses_something v e zero h z = cc
refuses_something v e (suc n) h z = absurd (omega arith)
