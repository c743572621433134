-- A part of a cycle as it is left: where nothing changed, and with one move more.
-- Assumes nothing.
use Prim.Native.Nat.{ℕ}
use mathlib.Core.Path.{◌≡◌, sym, ap, ◌∙◌}
use mathlib.Core.Bool.{true, or-true}
use mathlib.Core.List.{List, [], ◌∷◌}
use lib.ListN.{length}
use Rattle.queues.specs.declared.Went.{Went}
use Rattle.queues.specs.Queues.{more, fewer}
use Rattle.queues.specs.Events.{Event, word, log_of, happened}
use Rattle.queues.specs.Log.{entered, logged, onward}
use Rattle.queues.specs.Flow.{Flow, flowed}
use Rattle.queues.specs.Lent.{Left}
use Rattle.queues.proofs.LogLaws.{length_logged}
use Rattle.queues.proofs.MoveLaws.{happened_then, log_then, at_then}

module _ {f : Flow} {from to log kept : List ℕ} {at : ℕ} {w : Went} (l : Left f from to log kept at w) where
  -- the log keeps its length
  pub left_length : length kept ≡ length log
  left_length = ap length l.of_log ∙ length_logged log at (log_of f.events)

  -- equal parts are left alike
  pub left_same : {from' to' kept' : List ℕ} {r : Went} → from' ≡ from → to' ≡ to → kept' ≡ kept → r.at ≡ w.at → r.moved ≡ w.moved
      → Left f from' to' log kept' at r
  left_same a b c d e =
      record { of_from = a ∙ l.of_from; of_to = b ∙ l.of_to; of_log = c ∙ l.of_log; of_at = d ∙ l.of_at; of_moved = e ∙ l.of_moved }

  -- one packet more, its event and its word
  pub left_flowed : (k m : ℕ) (e : Event) {from' to' kept' : List ℕ} {r : Went} → from' ≡ fewer from k → to' ≡ more to m → kept' ≡ entered kept w.at (word e)
      → r.at ≡ onward (length kept) w.at 1 → r.moved ≡ true → Left (flowed f k m e) from' to' log kept' at r
  unfolding flowed logged log_of happened
  left_flowed k m e a b c d g =
      record {
        of_from = a ∙ ap (λ (x : List ℕ). fewer x k) l.of_from;
        of_to = b ∙ ap (λ (x : List ℕ). more x m) l.of_to;
        of_log = log_then log at f.events (e ∷ []) l.of_log l.of_at c;
        of_at = at_then log at f.events (e ∷ []) l.of_log l.of_at d;
        of_moved = g ∙ sym (happened_then f.events (e ∷ []) ∙ or-true (happened f.events));
      }
