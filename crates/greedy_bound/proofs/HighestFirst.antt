-- An order of visiting that no trace asks for, as an instance of any order: highest first has N places, place k holds N − 1 − k, and so each input below N stands
-- at one place and no other.
-- Assumes nothing.
use Prim.Native.Nat.{ℕ, ◌-◌, ◌≤◌, ◌<◌}
use native.Mathlib.Omega.{arith}
use mathlib.Core.Path.{◌≡◌, ◌∙◌}
use mathlib.Core.List.{List}
use lib.ListN.{length, get_or}
use Rattle.base.proofs.Listed.{length_listed, listed_at}
use Rattle.trace.specs.Reading.{header_of, reading}
use Rattle.queues.specs.Slot.{free}
use Rattle.slot_laws.proofs.TurnLaws.{Round}
use Rattle.bound.specs.Switch.{State}
use Rattle.bound.specs.Rival.{Rival}
use Rattle.greedy_bound.specs.Rivalry.{config_of, limit_of}
use Rattle.greedy_bound.specs.Orders.{slots_by, trace_by, downward}
use Rattle.greedy_bound.proofs.NoRivalBeats.{no_rival_beats_any_order}

module _ (ports : ℕ) where
  downward_length : length (downward ports) ≡ ports
  unfolding downward
  downward_length = simp length_listed (omega arith)

  downward_at : (u : ℕ) → u < ports → get_or (downward ports) u 0 ≡ ports - 1 - u
  unfolding downward
  downward_at u h = simp listed_at (omega arith)

  pub downward_round : Round ports (downward ports)
  downward_round =
      let long = downward_length in
      record {
        below = λ u h. omega (arith, downward_at u (omega arith));
        visits = λ i h. (ports - 1 - i, omega arith, downward_at (ports - 1 - i) (omega arith) ∙ omega arith);
        apart = λ u w l h e. omega (arith, downward_at u (omega arith), downward_at w (omega arith));
      }

pub no_rival_beats_highest_first : (s : List ℕ) → reading s ≡ 0 → (header_of s).model ≡ 1 → (e : State) (t : ℕ) → Rival (config_of s) (trace_by (λ t. free) s) t e
    → e.sent ≤ limit_of (slots_by (λ t k. downward (header_of s).ports) (λ t. free) s t).switch
no_rival_beats_highest_first s r m e =
    no_rival_beats_any_order s r m e (λ t k. downward (header_of s).ports) (λ t k. downward_round (header_of s).ports) (λ t. free)
