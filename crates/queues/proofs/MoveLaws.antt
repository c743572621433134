-- What is left after nothing, after one packet, and after one thing and then another.
-- Assumes nothing.
use Prim.Native.Nat.{ℕ}
use mathlib.Core.Path.{◌≡◌, refl, ap, ◌∙◌}
use mathlib.Core.Bool.{true, false, cond, ◌||◌}
use mathlib.Core.List.{List, [], ◌∷◌, ◌++◌}
use lib.ListN.{length, length-append, length-map}
use Rattle.queues.specs.declared.Went.{Went}
use Rattle.queues.specs.Queues.{has_room, more, fewer}
use Rattle.queues.specs.Events.{Event, word, log_of, happened}
use Rattle.queues.specs.Log.{entered, logged, onward}
use Rattle.queues.specs.Flow.{Flow, still, flowed}
use Rattle.queues.specs.Lent.{Left}
use Rattle.queues.proofs.LogLaws.{length_logged, logged_then, onward_then}

-- one flow after another
unfoldable pub joined : Flow → Flow → Flow
joined b c = record { from = c.from; to = c.to; events = b.events ++ c.events }

pub happened_then : (es fs : List Event) → happened (es ++ fs) ≡ (happened es || happened fs)
unfolding happened
happened_then [] fs = refl
happened_then (e ∷ es) fs = refl

words_then : (es fs : List Event) → log_of (es ++ fs) ≡ log_of es ++ log_of fs
unfolding log_of
words_then [] fs = refl
words_then (e ∷ es) fs = ap (λ (ws : List ℕ). word e ∷ ws) (words_then es fs)

length_words : (es : List Event) → length (log_of es) ≡ length es
unfolding log_of
length_words es = length-map es word

pub left_still : (from to log : List ℕ) (at : ℕ) → Left (still from to) from to log log at (record { at = at; moved = false })
unfolding still log_of logged onward happened
left_still from to log at = record { of_from = refl; of_to = refl; of_log = refl; of_at = refl; of_moved = refl }

pub left_moved : (from to log cap : List ℕ) (k m at : ℕ) (e : Event) → has_room cap to m ≡ true → {from' to' kept : List ℕ} {p w next : ℕ} → p ≡ k → from' ≡ fewer from p
    → to' ≡ cond (has_room cap to m) (more to m) to → w ≡ word e → kept ≡ entered log at w → next ≡ onward (length log) at 1
    → Left (flowed (still from to) k m e) from' to' log kept at (record { at = next; moved = true })
unfolding still flowed log_of logged onward happened
left_moved from to log cap k m at e room p f t w l n =
    record { of_from = rw p at f; of_to = rw room at t; of_log = rw w at l; of_at = n; of_moved = refl }

-- one run of events after another, in the log and in the place after it
module _ (log : List ℕ) (at : ℕ) {kept : List ℕ} {p : ℕ} (es fs : List Event) (k : kept ≡ logged log at (log_of es)) (h : p ≡ onward (length log) at (length es)) where
  pub log_then : {kept' : List ℕ} → kept' ≡ logged kept p (log_of fs) → kept' ≡ logged log at (log_of (es ++ fs))
  log_then l = cc (logged_then log at (log_of es) (log_of fs), words_then es fs, length_words es)

  pub at_then : {q : ℕ} → q ≡ onward (length kept) p (length fs) → q ≡ onward (length log) at (length (es ++ fs))
  at_then l = cc (length_logged log at (log_of es), onward_then (length log) at (length es) (length fs), length-append es fs)

module _ {b c : Flow} {from to from' to' log kept kept' : List ℕ} {at : ℕ} {r s t : Went} where
  pub left_joined : Left b from to log kept at r → Left c from' to' kept kept' r.at s → t ≡ record { at = s.at; moved = r.moved || s.moved }
      → Left (joined b c) from' to' log kept' at t
  unfolding joined
  left_joined x y e =
      record {
        of_from = y.of_from;
        of_to = y.of_to;
        of_log = log_then log at b.events c.events x.of_log x.of_at y.of_log;
        of_at = ap (λ (w : Went). w.at) e ∙ at_then log at b.events c.events x.of_log x.of_at y.of_at;
        of_moved = cc (happened_then b.events c.events);
      }

-- a step that goes by the queues as they are then
pub left_step : (step : Flow → Flow) → ((b : Flow) → step b ≡ joined b (step (still b.from b.to)))
    → {b : Flow} {from to from' to' log kept kept' : List ℕ} {at : ℕ} {r s t : Went} → Left b from to log kept at r → Left (step (still from to)) from' to' kept kept' r.at s
    → t ≡ record { at = s.at; moved = r.moved || s.moved } → Left (step b) from' to' log kept' at t
left_step step law {b} {from} {to} x y e =
    let same : still from to ≡ still b.from b.to = cc in
    rw law (left_joined x (rw same at y) e)
