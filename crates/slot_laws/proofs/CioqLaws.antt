-- A cycle of the CIOQ switch is a greedy matching (`Matched`), and so moves legally. An input takes the lowest output that passes, which
-- passes; where none is found none passes.
-- Assumes nothing.
use Prim.Native.Nat.{ℕ, zero, suc, ◌≤◌, ◌<◌}
use mathlib.Core.Path.{◌≡◌, refl, ap}
use mathlib.Core.Bool.{Bool, true, false, not, ◌&&◌}
use mathlib.Core.List.{List, [], ◌∷◌}
use lib.ListN.{length, get_or}
use lib.Dec.{ltb}
use borrow.Author.Tests.{ltb-true, ltb-false, not-true, not-false}
use Rattle.base.proofs.Below.{both_true}
use Rattle.base.proofs.Cases.{right_fails}
use Rattle.base.proofs.Lowest.{lowest_passes, none_passes}
use Rattle.queues.specs.Cioq.{eligible, is_taken, choice, Visits, visited, visits, matching}
use Rattle.slot_laws.proofs.Flows.{Part, legal_part}
use Rattle.slot_laws.proofs.Matchings.{outputs_of, Matched, unvisited, takes, passes, matched_legal}

module _ (ports : ℕ) (outcap inlen outlen taken : List ℕ) (i : ℕ) where
  -- what an input chooses is eligible and free
  pub choice_passes : choice ports outcap inlen outlen taken i < ports
      → (eligible outcap inlen outlen i (choice ports outcap inlen outlen taken i) ≡ true) × (is_taken taken (choice ports outcap inlen outlen taken i) ≡ false)
  unfolding choice
  choice_passes h =
      let p = both_true _ _ (lowest_passes (λ j. eligible outcap inlen outlen i j && not (is_taken taken j)) ports h) in
      (p.0, not-true _ p.1)

  -- where it finds none, each eligible output is taken
  pub choice_none : ports ≤ choice ports outcap inlen outlen taken i → (j : ℕ) → j < ports → eligible outcap inlen outlen i j ≡ true → is_taken taken j ≡ true
  unfolding choice
  choice_none h j l e =
      not-false (is_taken taken j) (right_fails _ _ (none_passes (λ j. eligible outcap inlen outlen i j && not (is_taken taken j)) ports h j l) e)

-- v is what u visits have done: they took some pairs, whose outputs are those taken
pub record Visited (ports : ℕ) (turn outcap inlen outlen : List ℕ) (slot cycle u : ℕ) (v : Visits) : Type 0 where
  pub pairs : List (ℕ × ℕ)
  pub taken : v.taken ≡ outputs_of pairs
  pub matched : Matched ports turn outcap inlen outlen slot cycle u pairs v.flow

module _ (ports : ℕ) (turn outcap inlen outlen : List ℕ) (slot cycle : ℕ) where
  visited_step : (u j : ℕ) (v : Visits) (t : Bool) → Visited ports turn outcap inlen outlen slot cycle u v
      → (t ≡ true → (j < ports) × (eligible outcap inlen outlen (get_or turn u 0) j ≡ true) × (is_taken v.taken j ≡ false))
      → (t ≡ false → (a : ℕ) → a < ports → eligible outcap inlen outlen (get_or turn u 0) a ≡ true → is_taken v.taken a ≡ true)
      → Visited ports turn outcap inlen outlen slot cycle (suc u) (visited t v slot cycle (get_or turn u 0) j)
  unfolding visited
  visited_step u j v true s found missed =
      let p = found refl in
      record {
        pairs = (get_or turn u 0, j) ∷ s.pairs;
        taken = ap (λ (l : List ℕ). j ∷ l) s.taken;
        matched = takes j s.matched p.0 p.1 (rw s.taken at p.2);
      }
  visited_step u j v false s found missed =
      record { pairs = s.pairs; taken = s.taken; matched = passes s.matched (λ a l e. rw s.taken at (missed refl a l e)) }

  pub visits_matched : (u : ℕ) → Visited ports turn outcap inlen outlen slot cycle u (visits ports turn outcap inlen outlen slot cycle u)
  unfolding visits
  visits_matched zero = record { pairs = []; taken = refl; matched = unvisited }
  visits_matched (suc u) =
      let v = visits ports turn outcap inlen outlen slot cycle u in
      let i = get_or turn u 0 in
      let j = choice ports outcap inlen outlen v.taken i in
      visited_step u j v (ltb j ports) (visits_matched u)
      (λ e. let l = ltb-true j ports e in let p = choice_passes ports outcap inlen outlen v.taken i l in (l, p.0, p.1))
      (λ e. choice_none ports outcap inlen outlen v.taken i (ltb-false j ports e))

  -- the pairs of a whole cycle
  pub pairs_of : List (ℕ × ℕ)
  pairs_of = (visits_matched (length turn)).pairs

  pub matching_matched : Matched ports turn outcap inlen outlen slot cycle (length turn) pairs_of (matching ports turn outcap inlen outlen slot cycle)
  unfolding matching pairs_of
  matching_matched = (visits_matched (length turn)).matched

  pub matching_part : ports ≤ 16 → Part outcap 3 inlen outlen (matching ports turn outcap inlen outlen slot cycle)
  matching_part few = legal_part (matched_legal few matching_matched)
