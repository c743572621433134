-- The steps of the two parts of a cycle: what one input and one output do, and one step more of the whole.
-- Assumes nothing.
use Prim.Native.Nat.{ℕ, ◌+◌, ◌≤◌, ◌<◌}
use native.Mathlib.Numerals.{add-one}
use native.Mathlib.Omega.{arith}
use mathlib.Core.Path.{◌≡◌, refl, sym, ap}
use mathlib.Core.Bool.{Bool, true, false, ◌&&◌, ◌||◌, and-false, or-false}
use mathlib.Core.List.{List, [], append-nil}
use lib.ListN.{length, take, get_or}
use lib.Seq.{length-take-le, get_or-take}
use lib.Dec.{ltb}
use borrow.Author.Tests.{lt-ltb, le-ltb}
use Rattle.base.specs.Below.{lowest}
use Rattle.base.proofs.Below.{both_true}
use Rattle.base.proofs.Lowest.{lowest_passes, lowest_cong}
use Rattle.queues.specs.declared.Went.{Went}
use Rattle.queues.specs.Queues.{place, waits, has_room}
use Rattle.queues.specs.Events.{Event, crossed_at, outmoved_at}
use Rattle.queues.specs.Flow.{Flow, still, flowed}
use Rattle.queues.specs.Crossbar.{crossing, crossed_one, crossings, input_part, outmover, outmoved_one, outmoves, output_part}
use Rattle.queues.specs.Lent.{Left}
use Rattle.crossbar.specs.Steps.{cross_step, outmove_step}
use Rattle.queues.proofs.MoveLaws.{joined, left_still, left_step}

-- events added after none
nothing_more : (b : Flow) → b ≡ joined b (still b.from b.to)
unfolding joined still
nothing_more b = ap (λ (es : List Event). record { from = b.from; to = b.to; events = es }) (sym (append-nil b.events))

crossed_after : (t : Bool) (b : Flow) (slot cycle i j : ℕ) → crossed_one t b slot cycle i j ≡ joined b (crossed_one t (still b.from b.to) slot cycle i j)
unfolding crossed_one flowed still joined
crossed_after true b slot cycle i j = refl
crossed_after false b slot cycle i j = nothing_more b

cross_after : (ports : ℕ) (crosscap : List ℕ) (slot cycle i : ℕ) (b : Flow) → cross_step ports crosscap b slot cycle i ≡ joined b (cross_step ports crosscap (still b.from b.to) slot cycle i)
unfolding cross_step crossing still
cross_after ports crosscap slot cycle i b =
    let j = crossing ports crosscap b i in
    crossed_after (ltb j ports) b slot cycle i j

-- one input more
module _ (ports : ℕ) (turn crosscap inlen crosslen : List ℕ) (slot cycle u : ℕ) where
  one_more_input : crossings ports turn crosscap inlen crosslen slot cycle (u + 1) ≡ cross_step ports crosscap (crossings ports turn crosscap inlen crosslen slot cycle u) slot cycle (get_or turn u 0)
  unfolding crossings cross_step
  one_more_input = rw add-one

  pub input_more : {from to from' to' log kept kept' : List ℕ} {at : ℕ} {r s t : Went}
      → Left (crossings ports turn crosscap inlen crosslen slot cycle u) from to log kept at r
      → Left (cross_step ports crosscap (still from to) slot cycle (get_or turn u 0)) from' to' kept kept' r.at s
      → t ≡ record { at = s.at; moved = r.moved || s.moved }
      → Left (crossings ports turn crosscap inlen crosslen slot cycle (u + 1)) from' to' log kept' at t
  input_more x y e =
      rw one_more_input
      (left_step (λ b. cross_step ports crosscap b slot cycle (get_or turn u 0)) (cross_after ports crosscap slot cycle (get_or turn u 0)) x y e)

-- every input
pub all_inputs : (ports u : ℕ) (turn crosscap inlen crosslen : List ℕ) (slot cycle : ℕ) {from to log kept : List ℕ} {at : ℕ} {r : Went} → u ≡ length turn
    → Left (crossings ports turn crosscap inlen crosslen slot cycle u) from to log kept at r → Left (input_part ports turn crosscap inlen crosslen slot cycle) from to log kept at r
unfolding input_part
all_inputs ports u turn crosscap inlen crosslen slot cycle e x = rw e at x

-- one input
module _ (n : ℕ) (crosscap inlen crosslen : List ℕ) (slot cycle i j : ℕ) (chosen : j ≡ crossing n crosscap (still inlen crosslen) i) where
  has_crossed : j < n → cross_step n crosscap (still inlen crosslen) slot cycle i ≡ flowed (still inlen crosslen) (place i j) (place i j) (crossed_at slot cycle i j)
  unfolding cross_step crossed_one
  has_crossed h = rw (← chosen, lt-ltb j n h)

  pub room_there : j < n → has_room crosscap crosslen (place i j) ≡ true
  unfolding crossing still
  room_there h =
      let f : ℕ → Bool = λ j. waits inlen (place i j) && has_room crosscap crosslen (place i j) in
      (both_true (waits inlen (place i j)) _ (rw (← chosen) at (lowest_passes f n (rw (← chosen) h)))).1

  pub cross_moves : j < n → {k : ℕ} → k ≡ place i j → {inlen' crosslen' log kept : List ℕ} {at : ℕ} {r : Went}
      → Left (flowed (still inlen crosslen) (place i j) k (crossed_at slot cycle i j)) inlen' crosslen' log kept at r
      → Left (cross_step n crosscap (still inlen crosslen) slot cycle i) inlen' crosslen' log kept at r
  cross_moves h p x = rw (has_crossed h) (rw p at x)

  pub cross_stays : n ≤ j → (log : List ℕ) (at : ℕ) → Left (cross_step n crosscap (still inlen crosslen) slot cycle i) inlen crosslen log log at (record { at = at; moved = false })
  unfolding cross_step crossed_one
  cross_stays h log at = rw (← chosen, le-ltb j n h) (left_still inlen crosslen log at)

outmoved_after : (t : Bool) (b : Flow) (slot cycle i j : ℕ) → outmoved_one t b slot cycle i j ≡ joined b (outmoved_one t (still b.from b.to) slot cycle i j)
unfolding outmoved_one flowed still joined
outmoved_after true b slot cycle i j = refl
outmoved_after false b slot cycle i j = nothing_more b

outmove_after : (turn outcap : List ℕ) (slot cycle j : ℕ) (b : Flow) → outmove_step turn outcap b slot cycle j ≡ joined b (outmove_step turn outcap (still b.from b.to) slot cycle j)
unfolding outmove_step outmover still
outmove_after turn outcap slot cycle j b =
    let u = outmover turn b j in
    outmoved_after (has_room outcap b.to j && ltb u (length turn)) b slot cycle (get_or turn u 0) j

-- one output more
module _ (turn outcap crosslen outlen : List ℕ) (slot cycle j : ℕ) where
  one_more_output : outmoves turn outcap crosslen outlen slot cycle (j + 1) ≡ outmove_step turn outcap (outmoves turn outcap crosslen outlen slot cycle j) slot cycle j
  unfolding outmoves outmove_step
  one_more_output = rw add-one

  pub output_more : {from to from' to' log kept kept' : List ℕ} {at : ℕ} {r s t : Went}
      → Left (outmoves turn outcap crosslen outlen slot cycle j) from to log kept at r
      → Left (outmove_step turn outcap (still from to) slot cycle j) from' to' kept kept' r.at s
      → t ≡ record { at = s.at; moved = r.moved || s.moved }
      → Left (outmoves turn outcap crosslen outlen slot cycle (j + 1)) from' to' log kept' at t
  output_more x y e =
      rw one_more_output
      (left_step (λ b. outmove_step turn outcap b slot cycle j) (outmove_after turn outcap slot cycle j) x y e)

-- every output
pub all_outputs : (ports j : ℕ) (turn outcap crosslen outlen : List ℕ) (slot cycle : ℕ) {from to log kept : List ℕ} {at : ℕ} {r : Went} → j ≡ ports
    → Left (outmoves turn outcap crosslen outlen slot cycle j) from to log kept at r → Left (output_part ports turn outcap crosslen outlen slot cycle) from to log kept at r
unfolding output_part
all_outputs ports j turn outcap crosslen outlen slot cycle e x = rw e at x

-- a full output takes nothing
pub outmove_full : (turn outcap crosslen outlen : List ℕ) (slot cycle j : ℕ) → has_room outcap outlen j ≡ false → (log : List ℕ) (at : ℕ)
    → Left (outmove_step turn outcap (still crosslen outlen) slot cycle j) crosslen outlen log log at (record { at = at; moved = false })
unfolding outmove_step outmoved_one still
outmove_full turn outcap crosslen outlen slot cycle j full log at = rw full (left_still crosslen outlen log at)

-- the first n inputs in turn, and the first of them that has a packet for output j
module _ (n : ℕ) (turn : List ℕ) (few : n ≤ length turn) where
  pub first_length : length (take n turn) ≡ n
  first_length = length-take-le n turn (omega arith)

  pub outmover_is : (crosslen : List ℕ) (j : ℕ) → outmover (take n turn) (still crosslen []) j ≡ lowest (λ u. waits crosslen (place (get_or turn u 0) j)) n
  unfolding outmover still
  outmover_is crosslen j =
      rw first_length
      (lowest_cong (λ u. waits crosslen (place (get_or (take n turn) u 0) j)) (λ u. waits crosslen (place (get_or turn u 0) j)) n
      (λ u h. ap (λ (i : ℕ). waits crosslen (place i j)) (get_or-take n turn u 0 h)))

-- one output
module _ (turn outcap crosslen outlen : List ℕ) (slot cycle j : ℕ) where
  -- input i is the first in turn that has a packet for output j
  pub outmove_moves : has_room outcap outlen j ≡ true → {i : ℕ} → (outmover turn (still crosslen outlen) j < length turn) × (get_or turn (outmover turn (still crosslen outlen) j) 0 ≡ i)
      → {crosslen' outlen' log kept : List ℕ} {at : ℕ} {r : Went} → Left (flowed (still crosslen outlen) (place i j) j (outmoved_at slot cycle i j)) crosslen' outlen' log kept at r
      → Left (outmove_step turn outcap (still crosslen outlen) slot cycle j) crosslen' outlen' log kept at r
  unfolding outmove_step outmoved_one has_room still
  outmove_moves room f x = rw (room, lt-ltb _ (length turn) f.0, f.1) x

  -- no input has one
  pub outmove_stays : outmover turn (still crosslen outlen) j ≡ length turn → (log : List ℕ) (at : ℕ)
      → Left (outmove_step turn outcap (still crosslen outlen) slot cycle j) crosslen outlen log log at (record { at = at; moved = false })
  unfolding outmove_step outmoved_one
  outmove_stays e log at = rw (le-ltb (outmover turn (still crosslen outlen) j) (length turn) (omega (arith, e)), and-false) (left_still crosslen outlen log at)

-- what was done, and then nothing
pub nothing_then : (r : Went) → r ≡ record { at = r.at; moved = r.moved || false }
nothing_then r = ap (λ (m : Bool). record { at = r.at; moved = m }) (sym (or-false r.moved))
