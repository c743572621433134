-- A step's answer, by what its refusals said: a refusal hands something back, and where nothing is refused the answer is the step's.
-- Assumes nothing.
use Prim.Native.Nat.{ℕ, zero, suc}
use mathlib.Core.Path.{◌≡◌, refl, sym, ap, ◌∙◌}
use Rattle.std.specs.Prelude.{Ok, Err, Result, IsErr, IsErrAnd, MatchResult}
use Rattle.std.proofs.lemmas.Result.{err_from_is_err_and}
use Rattle.base.specs.declared.Refusal.{Refusal}
use Rattle.base.specs.declared.Refused.{Refused}
use Rattle.base.specs.Refusal.{numbered, judged, judged_with}

pub handed_back : {A B C : Type 0} (u : C) (v : A) (b : B) (n : ℕ) (e : Refusal) → Err e ≡ judged n u → Err (record { refusal = e; answer = b }) ≡ judged_with n v b
unfolding judged judged_with
handed_back u v b zero e h = cc
handed_back {A} {B} u v b (suc n) e h = let w : e ≡ numbered (suc n) = cc in ap (λ (r : Refusal). Err (record { refusal = r; answer = b })) w

pub stepped : {A B : Type 0} (v : A) (b : B) (n : ℕ) → n ≡ 0 → Ok v ≡ judged_with n v b
unfolding judged_with
stepped v b n e = rw e

-- a verdict, to each refusal of which `map_err` gives what is handed back
pub with_back : {A B : Type 0} (u : A) (b : B) (n : ℕ) (r : Result A Refusal) (w : Result A (Refused B)) (Post : Refusal → Refused B → Type 0)
    → ((e : Refusal) (x : Refused B) → Post e x → x ≡ record { refusal = e; answer = b })
    → MatchResult r (λ x. w ≡ Ok x) (λ e. IsErrAnd w (Post e)) → r ≡ judged n u → w ≡ judged_with n u b
unfolding judged judged_with
with_back u b zero (Ok x) w Post post m e = let same : x ≡ u = cc in m ∙ ap Ok same
with_back u b (suc n) (Ok x) w Post post m e = cc
with_back u b n (Err f) w Post post m e = let p = err_from_is_err_and w m in p.1 ∙ ap Err (post f _ p.2) ∙ handed_back u u b n f e

-- and the ways on from there, by `?`
refused_for : {A C B : Type 0} (u : A) (v : C) (b : B) (n : ℕ) (f : Refused B) → ◌≡◌ {A = Result A (Refused B)} (Err f) (judged_with n u b) → ◌≡◌ {A = Result C (Refused B)} (Err f) (judged_with n v b)
unfolding judged_with
refused_for u v b zero f e = cc
refused_for u v b (suc n) f e = let w : f ≡ record { refusal = numbered (suc n); answer = b } = cc in ap Err w

pub refused_by : {A C B : Type 0} (u : A) (v : C) (b : B) (n : ℕ) (f : Refused B) (r : Result C (Refused B)) → IsErr r × IsErrAnd r (λ x. x ≡ f) → ◌≡◌ {A = Result A (Refused B)} (Err f) (judged_with n u b) → r ≡ judged_with n v b
refused_by u v b n f r h e = let p = err_from_is_err_and r h.1 in rw (p.1, p.2) (refused_for u v b n f e)

pub not_refused : {A B : Type 0} (u x : A) (b : B) (n : ℕ) → ◌≡◌ {A = Result A (Refused B)} (Ok x) (judged_with n u b) → (n ≡ 0) × (x ≡ u)
unfolding judged_with
not_refused u x b zero e = (refl, cc)
not_refused u x b (suc n) e = cc

-- both ways on from a verdict under `map_err` and `?`
module _ {A B : Type 0} (b : B) (u : A) (n : ℕ) {r : Result A Refusal} {w : Result A (Refused B)} {Post : Refusal → Refused B → Type 0}
    (post : (e : Refusal) (x : Refused B) → Post e x → x ≡ record { refusal = e; answer = b }) (m : MatchResult r (λ x. w ≡ Ok x) (λ e. IsErrAnd w (Post e))) (e : r ≡ judged n u) where
  pub stops_with : {C : Type 0} (v : C) {f : Refused B} {q : Result C (Refused B)} → w ≡ Err f → IsErr q × IsErrAnd q (λ x. x ≡ f) → q ≡ judged_with n v b
  stops_with v was exit = refused_by _ _ _ _ _ _ exit (sym was ∙ with_back _ b _ _ _ _ post m e)

  pub goes_with : {x : A} → w ≡ Ok x → (n ≡ 0) × (x ≡ u)
  goes_with was = not_refused _ _ _ _ (sym was ∙ with_back _ b _ _ _ _ post m e)
