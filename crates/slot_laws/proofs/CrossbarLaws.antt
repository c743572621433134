-- Both parts of a crossbar's cycle move legally. Each looks at the queues as they stand when it chooses, so what it chooses waits and has
-- room at that moment.
-- Assumes nothing.
use Prim.Native.Nat.{ℕ, zero, suc, ◌<◌}
use mathlib.Core.Path.{◌≡◌, refl}
use mathlib.Core.Bool.{Bool, true, false, ◌&&◌}
use mathlib.Core.List.{List}
use lib.ListN.{length, get_or}
use lib.Dec.{ltb}
use borrow.Author.Tests.{ltb-true}
use Rattle.base.proofs.Below.{both_true}
use Rattle.base.proofs.Lowest.{lowest_passes}
use Rattle.queues.specs.Queues.{place, waits, has_room}
use Rattle.queues.specs.Events.{crossed_at, outmoved_at}
use Rattle.queues.specs.Flow.{Flow, still}
use Rattle.queues.specs.Crossbar.{crossing, crossed_one, crossings, input_part, outmover, outmoved_one, outmoves, output_part}
use Rattle.slot_laws.proofs.Flows.{Legal, none, one, Part, legal_part}

-- what the input part chooses waits, and its crosspoint has room
pub crossing_passes : (ports : ℕ) (crosscap : List ℕ) (b : Flow) (i : ℕ) → crossing ports crosscap b i < ports
    → (waits b.from (place i (crossing ports crosscap b i)) ≡ true) × (has_room crosscap b.to (place i (crossing ports crosscap b i)) ≡ true)
unfolding crossing
crossing_passes ports crosscap b i h =
    both_true _ _ (lowest_passes (λ j. waits b.from (place i j) && has_room crosscap b.to (place i j)) ports h)

module _ (crosscap : List ℕ) (f b : Flow) (slot cycle i j : ℕ) where
  crossed_legal : (t : Bool) → (t ≡ true → (waits b.from (place i j) ≡ true) × (has_room crosscap b.to (place i j) ≡ true))
      → Legal crosscap 3 f b → Legal crosscap 3 f (crossed_one t b slot cycle i j)
  unfolding crossed_one crossed_at
  crossed_legal true passes s = let p = passes refl in one (place i j) (place i j) (crossed_at slot cycle i j) s p.0 p.1 refl
  crossed_legal false passes s = s

module _ (ports : ℕ) (turn crosscap inlen crosslen : List ℕ) (slot cycle : ℕ) where
  pub crossings_legal : (u : ℕ) → Legal crosscap 3 (still inlen crosslen) (crossings ports turn crosscap inlen crosslen slot cycle u)
  unfolding crossings
  crossings_legal zero = none
  crossings_legal (suc u) =
      let b = crossings ports turn crosscap inlen crosslen slot cycle u in
      let i = get_or turn u 0 in
      let j = crossing ports crosscap b i in
      crossed_legal crosscap (still inlen crosslen) b slot cycle i j (ltb j ports) (λ e. crossing_passes ports crosscap b i (ltb-true j ports e)) (crossings_legal u)

  pub input_part_lem : Part crosscap 3 inlen crosslen (input_part ports turn crosscap inlen crosslen slot cycle)
  unfolding input_part
  input_part_lem = legal_part (crossings_legal (length turn))

-- what the output part chooses waits
pub outmover_passes : (turn : List ℕ) (b : Flow) (j : ℕ) → outmover turn b j < length turn → waits b.from (place (get_or turn (outmover turn b j) 0) j) ≡ true
unfolding outmover
outmover_passes turn b j h = lowest_passes (λ u. waits b.from (place (get_or turn u 0) j)) (length turn) h

module _ (outcap : List ℕ) (f b : Flow) (slot cycle i j : ℕ) where
  outmoved_legal : (t : Bool) → (t ≡ true → (waits b.from (place i j) ≡ true) × (has_room outcap b.to j ≡ true))
      → Legal outcap 4 f b → Legal outcap 4 f (outmoved_one t b slot cycle i j)
  unfolding outmoved_one outmoved_at
  outmoved_legal true passes s = let p = passes refl in one (place i j) j (outmoved_at slot cycle i j) s p.0 p.1 refl
  outmoved_legal false passes s = s

module _ (turn outcap crosslen outlen : List ℕ) (slot cycle : ℕ) where
  pub outmoves_legal : (j : ℕ) → Legal outcap 4 (still crosslen outlen) (outmoves turn outcap crosslen outlen slot cycle j)
  unfolding outmoves
  outmoves_legal zero = none
  outmoves_legal (suc j) =
      let b = outmoves turn outcap crosslen outlen slot cycle j in
      let u = outmover turn b j in
      outmoved_legal outcap (still crosslen outlen) b slot cycle (get_or turn u 0) j
      (has_room outcap b.to j && ltb u (length turn))
      (λ e. let p = both_true (has_room outcap b.to j) (ltb u (length turn)) e in (outmover_passes turn b j (ltb-true u (length turn) p.1), p.0))
      (outmoves_legal j)

  pub output_part_lem : (ports : ℕ) → Part outcap 4 crosslen outlen (output_part ports turn outcap crosslen outlen slot cycle)
  unfolding output_part
  output_part_lem ports = legal_part (outmoves_legal ports)
