-- A contract allows one answer where any two that meet it are equal. Here is what that says, of the contract as the check has it, and
-- that it is so of the functions of this crate; each crate above has a `Unique` of its own.
-- `Post`, in the `Reads` below a function's module, is the claim that the check makes of the function's `ensures`: of the arguments a,
-- the answer x and the parameters d as the call leaves them.
-- Assumes nothing.
use Prim.Native.Nat.{ℕ}
use mathlib.Core.Path.{◌≡◌, sym, ◌∙◌}
use mathlib.Core.List.{List}
use contract.Lifetimes.{Lfts}
use denote.Triple.Clauses.{AtExit}
use borrow.Fn.Kinds.{ParamKind, ResultKind, Dens, res_t, ended_of, Out}
use Rattle.base.proofs.Refusal.number.Kinds as number-kinds
use Rattle.base.proofs.Refusal.number.Reads as number
use Rattle.base.proofs.Refusal.with.Kinds as with-kinds
use Rattle.base.proofs.Refusal.with.Reads as with_lem
use Rattle.base.proofs.RefusalFromRefused.from.Kinds as from-kinds
use Rattle.base.proofs.RefusalFromRefused.from.Reads as from
use Rattle.base.proofs.unless.Kinds as unless-kinds
use Rattle.base.proofs.unless.Reads as unless
use Rattle.base.proofs.refusal_of.Kinds as refusal-of-kinds
use Rattle.base.proofs.refusal_of.Reads as refusal-of

-- two things that are each one thing are equal
pub determined : {A : Type 0} {a b d : A} → a ≡ d → b ≡ d → a ≡ b
determined x y = x ∙ sym y

-- two calls that a contract allows for the same arguments, one with the answer x and the other with y, show the same
abbrev pub OneShown : (n : ℕ) (ps : List (ParamKind n)) (r : ResultKind n) {A : Lfts n → Type 0} → ((κs : Lfts n) → (res_t r κs).Denot → AtExit (ended_of n ps r) κs → A κs) → Out n ps r → Type 0
OneShown n ps r shown post = (κs : Lfts n) (a : Dens κs ps) (x y : (res_t r κs).Denot) (d e : AtExit (ended_of n ps r) κs) → post κs a x d → post κs a y e → shown κs x d ≡ shown κs y e

-- the answer itself
abbrev pub OneAnswer : (n : ℕ) (ps : List (ParamKind n)) (r : ResultKind n) → Out n ps r → Type 0
OneAnswer n ps r = OneShown n ps r (λ κs x d. x)

-- for every type of error
pub unless_one : (T : _) (l : _) (m : _) → OneAnswer 1 (unless-kinds.ps T l) (unless-kinds.r T l) (unless.Post T l m)
unless_one T l m κs a x y d e = determined

pub with_one : (T : _) (l : _) → OneAnswer 1 (with-kinds.ps T l) (with-kinds.r T l) (with_lem.Post T l)
with_one T l κs a x y d e = determined

pub number_one : OneAnswer 0 number-kinds.ps number-kinds.r number.Post
number_one κs a x y d e = determined

pub from_one : (T : _) (l : _) (m : _) → OneAnswer 1 (from-kinds.ps T l) (from-kinds.r T l) (from.Post T l m)
from_one T l m κs a x y d e = determined

pub refusal_of_one : (T : _) (l : _) (m : _) → OneAnswer 1 (refusal-of-kinds.ps T l) (refusal-of-kinds.r T l) (refusal-of.Post T l m)
refusal_of_one T l m κs a x y d e = determined
