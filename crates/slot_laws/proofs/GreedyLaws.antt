-- A whole cycle of the CIOQ switch, by the pairs that it takes, where every input is visited once: each pair is eligible at the start, no
-- port is taken twice, of each eligible pair the input or the output is taken, and one packet moves for each pair.
-- Assumes nothing.
use Prim.Native.Nat.{ℕ, ◌+◌, ◌≤◌, ◌<◌}
use native.Mathlib.Omega.{arith}
use mathlib.Core.Path.{◌≡◌, sym, ap, ◌∙◌}
use mathlib.Core.Bool.{true}
use mathlib.Core.List.{List}
use lib.ListN.{length, get_or}
use Rattle.queues.specs.Queues.{place}
use Rattle.queues.specs.Flow.{Flow}
use Rattle.queues.specs.Cioq.{eligible, is_taken, visits, matching}
use Rattle.slot_laws.proofs.Matchings.{inputs_of, outputs_of, occurs, times, Each, taken_pair, pairs_left, pairs_came, pairs_events, pairs_eligible, input_once, output_once, maximal}
use Rattle.slot_laws.proofs.CioqLaws.{visits_matched, pairs_of, matching_matched}
use Rattle.slot_laws.proofs.TurnLaws.{Round}

-- the pairs of m take the queues to those of b
pub record Greedy (ports : ℕ) (outcap inlen outlen : List ℕ) (m : List (ℕ × ℕ)) (b : Flow) : Type 0 where
  pub each : Each (λ i j. (i < ports) × (j < ports) × (eligible outcap inlen outlen i j ≡ true)) m
  pub input_once : (i : ℕ) → occurs (inputs_of m) i ≤ 1
  pub output_once : (j : ℕ) → occurs (outputs_of m) j ≤ 1
  pub maximal : (i j : ℕ) → i < ports → j < ports → eligible outcap inlen outlen i j ≡ true → 1 ≤ occurs (inputs_of m) i + occurs (outputs_of m) j
  pub left : (i j : ℕ) → j < 16 → get_or b.from (place i j) 0 + times m i j ≡ get_or inlen (place i j) 0
  pub came : (j : ℕ) → get_or b.to j 0 ≡ get_or outlen j 0 + occurs (outputs_of m) j
  pub count : length b.events ≡ length m

module _ (ports : ℕ) (turn outcap inlen outlen : List ℕ) (slot cycle : ℕ) where
  pub matching_greedy : ports ≤ 16 → length outcap ≤ length outlen → Round ports turn
      → Greedy ports outcap inlen outlen (pairs_of ports turn outcap inlen outlen slot cycle) (matching ports turn outcap inlen outlen slot cycle)
  matching_greedy few long round =
      let s = matching_matched ports turn outcap inlen outlen slot cycle in
      let m = pairs_of ports turn outcap inlen outlen slot cycle in
      record {
        each = pairs_eligible s (λ i. i < ports) round.below;
        input_once = input_once s round.apart;
        output_once = output_once s;
        maximal =
            λ i j h l e.
            let v = round.visits i h in
            let ok : eligible outcap inlen outlen (get_or turn v.0 0) j ≡ true = ap (λ (x : ℕ). eligible outcap inlen outlen x j) v.2 ∙ e in
            omega (arith, maximal s v.0 j v.1 l ok, ap (occurs (inputs_of m)) v.2);
        left = pairs_left few s;
        came = pairs_came few s long;
        count = pairs_events s;
      }

  -- the outputs taken in the first u visits: none twice, and each below N
  pub taken_once : (u j : ℕ) → occurs (visits ports turn outcap inlen outlen slot cycle u).taken j ≤ 1
  taken_once u j =
      let v = visits_matched ports turn outcap inlen outlen slot cycle u in
      omega (arith, ap (λ (l : List ℕ). occurs l j) v.taken, output_once v.matched j)

  pub taken_below : (u j : ℕ) → is_taken (visits ports turn outcap inlen outlen slot cycle u).taken j ≡ true → j < ports
  taken_below u j h =
      let v = visits_matched ports turn outcap inlen outlen slot cycle u in
      (taken_pair (pairs_eligible v.matched (λ i. Unit) (λ w l. tt)) j (sym (ap (λ (l : List ℕ). is_taken l j) v.taken) ∙ h)).1.1
