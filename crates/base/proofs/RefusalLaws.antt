-- Chains of refusals: where a chain refuses nothing none of its parts does, and the number that is judged is the answer's.
-- Assumes nothing.
use Prim.Native.Nat.{ℕ, zero, suc, ◌≤◌, ◌<◌}
use mathlib.Core.Path.{◌≡◌, refl, ap, ◌∙◌}
use mathlib.Core.Bool.{Bool, true, false}
use native.Mathlib.Omega.{arith}
use borrow.Author.Tests.{eqb-true}
use lib.Dec.{eqb}
use Rattle.std.specs.Prelude.{Ok, Err, Result, IsErr, IsErrAnd}
use Rattle.std.proofs.lemmas.Result.{err_from_is_err_and}
use Rattle.base.specs.Below.{all_below}
use Rattle.base.proofs.Below.{all_at}
use Rattle.base.specs.declared.Refusal.{Refusal}
use Rattle.base.specs.Refusal.{unless, ◌⨟◌, number, numbered, tested, judged, judged_with, refusal_of, refusal_with}

-- nothing is refused exactly where the test passes
pub unless_zero : (b : Bool) (n : ℕ) → unless b (suc n) ≡ 0 → b ≡ true
unfolding unless
unless_zero true n h = refl
unless_zero false n h = absurd (omega arith)

pub chain_zero : (a b : ℕ) → (a ⨟ b) ≡ 0 → (a ≡ 0) × (b ≡ 0)
unfolding ◌⨟◌
chain_zero zero b h = (refl, h)
chain_zero (suc a) b h = absurd (omega arith)

-- a refusal decides, whatever comes after it
pub stops : (a b : ℕ) → (a ≡ 0 → ⊥) → (a ⨟ b) ≡ a
unfolding ◌⨟◌
stops zero b h = absurd (h refl)
stops (suc a) b h = refl

-- where nothing is refused the rest decides
pub goes_on : (a b : ℕ) → a ≡ 0 → (a ⨟ b) ≡ b
unfolding ◌⨟◌
goes_on a b e = rw e

-- a test in a chain: where it passes the rest decides, and where it fails its number does
pub passed : (b : Bool) (n m : ℕ) → b ≡ true → (unless b n ⨟ m) ≡ m
unfolding unless ◌⨟◌
passed b n m e = rw e

pub failed : (b : Bool) (n m : ℕ) → b ≡ false → (unless b (suc n) ⨟ m) ≡ suc n
unfolding unless ◌⨟◌
failed b n m e = rw e

-- what was not refused has passed its test
pub test_holds : {E : Type 0} (u : Unit {0}) (b : Bool) (f : E) → Ok u ≡ tested b f → b ≡ true
unfolding tested
test_holds u true f h = refl
test_holds u false f h = cc

-- A chain by `?`, where `b` is what the code tests and `d` what the definition does. A test that fails decides, and one that holds leaves it to the rest
pub fails : {A : Type 0} (v : A) (e f : Refusal) (b d : Bool) (n m : ℕ) → Err e ≡ tested b f → b ≡ d → f ≡ numbered (suc n) → Err e ≡ judged (unless d (suc n) ⨟ m) v
unfolding tested unless ◌⨟◌ judged
fails v e f true d n m h x y = cc
fails v e f false true n m h x y = cc
fails v e f false false n m h x y = let w : e ≡ numbered (suc n) = cc in ap Err w

pub holds : {A : Type 0} (v : A) (u : Unit {0}) (b d : Bool) (f : Refusal) (n m : ℕ) → Ok u ≡ tested b f → b ≡ d → judged m v ≡ judged (unless d n ⨟ m) v
unfolding tested unless ◌⨟◌
holds v u true true f n m h x = refl
holds v u true false f n m h x = cc
holds v u false d f n m h x = cc

pub last : (r : Result (Unit {0}) Refusal) (b d : Bool) (f : Refusal) (n : ℕ) → r ≡ tested b f → b ≡ d → f ≡ numbered (suc n) → r ≡ judged (unless d (suc n)) tt
unfolding tested unless judged
last r true true f n h x y = h
last r true false f n h x y = cc
last r false true f n h x y = cc
last r false false f n h x y = h ∙ ap Err y

-- a part that refuses decides, and one that does not leaves it to the rest
pub refuses : {A B : Type 0} (u : A) (v : B) (e : Refusal) (a b : ℕ) → Err e ≡ judged a u → Err e ≡ judged (a ⨟ b) v
unfolding judged ◌⨟◌
refuses u v e zero b h = cc
refuses u v e (suc a) b h = let w : e ≡ numbered (suc a) = cc in ap Err w

pub clear : {A : Type 0} (u x : A) (a : ℕ) → Ok x ≡ judged a u → (a ≡ 0) × (x ≡ u)
unfolding judged
clear u x zero h = (refl, cc)
clear u x (suc a) h = cc

pub passes : {A B : Type 0} (u x : A) (v : B) (a b : ℕ) → Ok x ≡ judged a u → judged b v ≡ judged (a ⨟ b) v
unfolding judged ◌⨟◌
passes u x v zero b h = refl
passes u x v (suc a) b h = cc

-- the same refusal, and the same verdict, over another value
pub refused : {A B : Type 0} (u : A) (v : B) (e : Refusal) (a : ℕ) → Err e ≡ judged a u → Err e ≡ judged a v
unfolding judged
refused u v e zero h = cc
refused u v e (suc a) h = let w : e ≡ numbered (suc a) = cc in ap Err w

pub accepted : {A B : Type 0} (u x : A) (v : B) (a : ℕ) → Ok x ≡ judged a u → Ok v ≡ judged a v
unfolding judged
accepted u x v zero h = refl
accepted u x v (suc a) h = cc

-- the exit of a `?`
pub handed_on : {A : Type 0} {e : Refusal} {w : Result A Refusal} (r : Result A Refusal) → IsErr r × IsErrAnd r (λ x. x ≡ e) → Err e ≡ w → r ≡ w
handed_on r h k = let p = err_from_is_err_and r h.1 in rw (p.1, p.2) k

-- a number of the paper's table is the number of its refusal
every : all_below (λ n. eqb (number (numbered (suc n))) (suc n)) 18 ≡ true
unfolding number numbered all_below
every = refl

pub in_table : (n : ℕ) → n < 18 → number (numbered (suc n)) ≡ suc n
in_table n a = eqb-true _ _ (all_at (λ n. eqb (number (numbered (suc n))) (suc n)) 18 every n a)

-- a chain of such numbers is one of them, or 0
pub unless_small : (b : Bool) (n k : ℕ) → n ≤ k → unless b n ≤ k
unfolding unless
unless_small true n k l = omega arith
unless_small false n k l = l

pub chain_small : (a b k : ℕ) → a ≤ k → b ≤ k → (a ⨟ b) ≤ k
unfolding ◌⨟◌
chain_small zero b k l m = m
chain_small (suc a) b k l m = l

-- so the number that is judged is the number of the answer's refusal
pub number_of_judged : {A : Type 0} (n : ℕ) (a : A) → n ≤ 18 → refusal_of (judged n a) ≡ n
unfolding refusal_of judged
number_of_judged zero a l = refl
number_of_judged (suc n) a l = in_table n (omega arith)

pub number_with_judged : {A B : Type 0} (n : ℕ) (a : A) (b : B) → n ≤ 18 → refusal_with (judged_with n a b) ≡ n
unfolding refusal_with judged_with
number_with_judged zero a b l = refl
number_with_judged (suc n) a b l = in_table n (omega arith)
