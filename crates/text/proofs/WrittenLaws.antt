-- Texts on a page: no text, one that is copied, and one text behind another; the next place stays within the page.
-- Assumes nothing.
use Prim.Native.Nat.{ℕ, zero, suc, ◌+◌, ◌-◌, min, ◌≤◌, ◌<◌}
use native.Mathlib.Omega.{arith}
use mathlib.Core.Path.{◌≡◌, refl, sym, ap, ◌∙◌}
use mathlib.Core.Logic.{⊎_elim}
use mathlib.Core.List.{List, [], ◌∷◌, ◌++◌, append_assoc}
use lib.ListN.{length, get_or, set, take, drop, length-append}
use lib.Seq.{sets, sets-eq, drop-drop, length-take-le}
use borrow.Rule.Slice.PartMut.{put_mid}
use Rattle.std.proofs.Common.{Fits, w8}
use Rattle.std.proofs.lemmas.List.{take-append-drop, drop_all}
use borrow.Author.Tests.{lt-ltb, le-ltb}
use Rattle.base.proofs.Order.{le_or_lt}
use Rattle.io.specs.Counts.{IsPrefixLen}
use Rattle.queues.specs.Log.{entered, logged, onward}
use Rattle.queues.proofs.LogLaws.{Fit, none, more, length_logged, logged_past, logged_then, onward_past, onward_within, onward_then}
use Rattle.text.specs.Text.{Written}

-- the page keeps its length
pub page_length : {page after : List ℕ} {at next : ℕ} {text : List ℕ} → Written page at text after next → length after ≡ length page
page_length {page} {at = at} {text = text} a = ap length a.of_page ∙ length_logged page at text

-- past the page's end nothing stands
pub past : (page : List ℕ) (at : ℕ) (text : List ℕ) → length page ≤ at → Written page at text page at
past page at text h =
    record { of_page = sym (logged_past page at text h); of_next = sym (onward_past (length page) at (length text) h) }

-- nothing
pub nothing : (page : List ℕ) (at : ℕ) → Written page at [] page at
unfolding logged onward
nothing page at = record { of_page = refl; of_next = refl }

-- one text behind another
pub then : {page mid after : List ℕ} {at place next : ℕ} {vs ws : List ℕ} → Written page at vs mid place → Written mid place ws after next → Written page at (vs ++ ws) after next
then {page} {mid} {after} {at} {place} {next} {vs} {ws} a b =
    record {
      of_page =
          b.of_page
          ∙ ap (λ (l : List ℕ). logged l place ws) a.of_page
          ∙ ap (λ (p : ℕ). logged (logged page at vs) p ws) a.of_next
          ∙ logged_then page at vs ws;
      of_next =
          b.of_next
          ∙ ap (λ (n : ℕ). onward n place (length ws)) (page_length a)
          ∙ ap (λ (p : ℕ). onward (length page) p (length ws)) a.of_next
          ∙ onward_then (length page) at (length vs) (length ws)
          ∙ ap (onward (length page) at) (sym (length-append vs ws));
    }

-- the same text, known by another name
pub same : {page after : List ℕ} {at next : ℕ} {vs ws : List ℕ} → vs ≡ ws → Written page at vs after next → Written page at ws after next
same {page} {after} {at} {next} e a =
    record {
      of_page = a.of_page ∙ ap (logged page at) e;
      of_next = a.of_next ∙ ap (λ (t : List ℕ). onward (length page) at (length t)) e;
    }

-- bytes are words that `logged` takes
pub fit_each : (text : List ℕ) → ((i : ℕ) → Fits w8 (get_or text i 0)) → Fit text
fit_each [] each = none
fit_each (b ∷ text) each = more (omega (arith, each 0)) (fit_each text (λ i. each (suc i)))

fit_first : {text : List ℕ} (k : ℕ) → Fit text → Fit (take k text)
fit_first zero f = none
fit_first (suc k) none = none
fit_first (suc k) (more h f) = more h (fit_first k f)

logged_sets : (page : List ℕ) (at : ℕ) (text : List ℕ) → Fit text → logged page at text ≡ sets page at text
unfolding logged entered
logged_sets page at [] none = refl
logged_sets page at (w ∷ text) (more h fit) = rw (lt-ltb w 4294967296 h) (logged_sets (set page at w) (suc at) text fit)

-- a text that the page has room for, copied to its place
within : (page : List ℕ) (at : ℕ) (text : List ℕ) (n : ℕ) → Fit text → length text ≡ n → at + n ≤ length page → Written page at text (put_mid at n page text) (at + n)
within page at text n fit long room =
    record {
      of_page =
          ap (λ (l : List ℕ). take at page ++ (text ++ l)) (drop-drop n at page ∙ ap (λ (k : ℕ). drop (at + k) page) (sym long))
          ∙ sym (logged_sets page at text fit ∙ sets-eq text page at (omega (arith, long)) ∙ append_assoc (take at page) text _);
      of_next = ap (λ (k : ℕ). at + k) (sym long) ∙ sym (onward_within (length page) at (length text) (omega (arith, long)));
    }

-- a text of which as much is copied as the page has room for
pub copied : (page : List ℕ) (at : ℕ) (text : List ℕ) (n k : ℕ) (part : List ℕ) → Fit text → at < length page → n ≡ min (length text) (length page - at) → k ≡ n → part ≡ take n text
    → Written page at text (put_mid at k page part) (at + n)
copied page at text n k part fit inside e same_number same_part =
    let all : take n text ++ drop n text ≡ text = take-append-drop n text in
    let first = within page at (take n text) n (fit_first n fit) (length-take-le n text (omega arith)) (omega arith) in
    let long = page_length first in
    rw (same_number, same_part)
    (same all
    (then first
    (⊎_elim
    (λ (h : length text ≤ n). same (sym (drop_all n text h)) (nothing _ (at + n)))
    (λ (h : n < length text). past _ (at + n) (drop n text) (omega arith))
    (le_or_lt (length text) n))))

-- the next place is no further than the page's end
onward_bound : (n at k : ℕ) → at ≤ n → onward n at k ≤ n
unfolding onward
onward_bound n at zero h = h
onward_bound n at (suc k) h =
    ⊎_elim
    (λ (past : n ≤ at). rw (le-ltb at n past) (onward_bound n at k h))
    (λ (within : at < n). rw (lt-ltb at n within) (onward_bound n (suc at) k within))
    (le_or_lt n at)

-- so what was written from the page's start on is counted by it, and can be lent
pub counted : {page after : List ℕ} {next : ℕ} {text : List ℕ} → Written page 0 text after next → IsPrefixLen next after
counted {page} {after} {next} {text} a =
    let bound : next ≤ length after = omega (arith, a.of_next, onward_bound (length page) 0 (length text) (omega arith), page_length a) in
    (bound, sym (length-take-le next after bound))
