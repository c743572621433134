-- Legal movement, said once for every part of a cycle: packets go one by one, each from a queue that is not empty to a queue that is not
-- full, each with an event of the part's kind. So no event takes from an empty queue and none enters a full one. The rest are consequences,
-- each an induction over the moves: what is kept, and that the events count what left the one side and came to the other.
-- Assumes nothing.
use Prim.Native.Nat.{ℕ, ◌+◌, ◌≤◌}
use native.Mathlib.Omega.{arith}
use mathlib.Core.Path.{◌≡◌, refl, ◌∙◌}
use mathlib.Core.Logic.{◌≢◌}
use mathlib.Core.Bool.{true}
use mathlib.Core.List.{List, [], ◌∷◌}
use lib.ListN.{length, get_or}
use Rattle.base.proofs.Sums.{total}
use Rattle.queues.specs.Queues.{waits, has_room}
use Rattle.queues.specs.Events.{Event, of_kind}
use Rattle.queues.specs.Flow.{Flow, still, flowed}
use Rattle.slot_laws.proofs.QueueLengths.{Within, Alike, room_inside, length_more, length_fewer, within_more, within_fewer, more_grows, fewer_falls, total_more, total_fewer}
use Rattle.slot_laws.proofs.EventsLaws.{of_both, one_of_kind, one_of_other, more_events}

-- from f to a flow, along any number of legal moves
pub data Legal (cap : List ℕ) (kind : ℕ) (f : Flow) : Flow → Type 0 where
  none : Legal cap kind f f
  one : {b : Flow} (k m : ℕ) (e : Event) → Legal cap kind f b → waits b.from k ≡ true → has_room cap b.to m ≡ true → e.kind ≡ kind
      → Legal cap kind f (flowed b k m e)

module _ {cap : List ℕ} {kind : ℕ} {f : Flow} where
  pub from_length : {b : Flow} → Legal cap kind f b → length b.from ≡ length f.from
  unfolding flowed
  from_length none = refl
  from_length (one {b = b} k m e s w r t) = length_fewer b.from k ∙ from_length s

  pub to_length : {b : Flow} → Legal cap kind f b → length b.to ≡ length f.to
  unfolding flowed
  to_length none = refl
  to_length (one {b = b} k m e s w r t) = length_more b.to m ∙ to_length s

  pub from_falls : {b : Flow} → Legal cap kind f b → (x : ℕ) → get_or b.from x 0 ≤ get_or f.from x 0
  unfolding flowed
  from_falls none x = omega arith
  from_falls (one {b = b} k m e s w r t) x = omega (arith, fewer_falls b.from k x, from_falls s x)

  pub to_grows : {b : Flow} → Legal cap kind f b → (x : ℕ) → get_or f.to x 0 ≤ get_or b.to x 0
  unfolding flowed
  to_grows none x = omega arith
  to_grows (one {b = b} k m e s w r t) x = omega (arith, more_grows b.to m x, to_grows s x)

  -- queues within any capacities stay so where packets leave, and within the part's own where they come
  pub from_within : {b : Flow} → Legal cap kind f b → (bound : List ℕ) → Within bound f.from → Within bound b.from
  unfolding flowed
  from_within none bound h = h
  from_within (one {b = b} k m e s w r t) bound h = within_fewer b.from k bound (from_within s bound h)

  pub to_within : {b : Flow} → Legal cap kind f b → Within cap f.to → Within cap b.to
  unfolding flowed
  to_within none h = h
  to_within (one {b = b} k m e s w r t) h = within_more cap b.to m r (to_within s h)

  -- what left is what the events count, and so is what came
  pub from_total : {b : Flow} → Legal cap kind f b → (n : ℕ) → length f.from ≤ n
      → total b.from n + length b.events ≡ total f.from n + length f.events
  unfolding flowed
  from_total none n h = refl
  from_total (one {b = b} k m e s w r t) n h =
      let before = from_total s n h in
      let less = total_fewer b.from k n w (omega (arith, from_length s)) in
      omega (arith, more_events b.events e)

  pub to_total : {b : Flow} → Legal cap kind f b → (n : ℕ) → length cap ≤ length f.to → length f.to ≤ n
      → total b.to n + length f.events ≡ total f.to n + length b.events
  unfolding flowed
  to_total none n c h = refl
  to_total (one {b = b} k m e s w r t) n c h =
      let same = to_length s in
      let before = to_total s n c h in
      let gain = total_more b.to m n (room_inside cap b.to m (omega arith) r) (omega arith) in
      omega (arith, more_events b.events e)

  -- every event is of the part's kind
  pub of_this_kind : {b : Flow} → Legal cap kind f b → of_kind kind b.events + length f.events ≡ of_kind kind f.events + length b.events
  unfolding flowed
  of_this_kind none = refl
  of_this_kind (one {b = b} k m e s w r t) =
      let before = of_this_kind s in
      omega (arith, of_both kind b.events (e ∷ []), one_of_kind kind e t, more_events b.events e)

  pub of_other_kind : {b : Flow} → Legal cap kind f b → (other : ℕ) → kind ≢ other → of_kind other b.events ≡ of_kind other f.events
  unfolding flowed
  of_other_kind none other d = refl
  of_other_kind (one {b = b} k m e s w r t) other d =
      let before = of_other_kind s other d in
      omega (arith, of_both other b.events (e ∷ []), one_of_other other e (omega arith))

-- what a whole part is known to do, from queues at rest and with no events
pub record Part (cap : List ℕ) (kind : ℕ) (from to : List ℕ) (b : Flow) : Type 0 where
  pub legal : Legal cap kind (still from to) b
  pub from_kept : (bound : List ℕ) → Alike bound from b.from
  pub to_kept : Alike cap to b.to
  pub from_falls : (x : ℕ) → get_or b.from x 0 ≤ get_or from x 0
  pub to_grows : (x : ℕ) → get_or to x 0 ≤ get_or b.to x 0
  pub left : (n : ℕ) → length from ≤ n → total b.from n + of_kind kind b.events ≡ total from n
  pub came : (n : ℕ) → length cap ≤ length to → length to ≤ n → total b.to n ≡ total to n + of_kind kind b.events
  pub this_kind : of_kind kind b.events ≡ length b.events
  pub other_kind : (other : ℕ) → kind ≢ other → of_kind other b.events ≡ 0

pub legal_part : {cap : List ℕ} {kind : ℕ} {from to : List ℕ} {b : Flow} → Legal cap kind (still from to) b → Part cap kind from to b
unfolding still of_kind
legal_part s =
    record {
      legal = s;
      from_kept = λ bound. record { same_length = from_length s; within = from_within s bound };
      to_kept = record { same_length = to_length s; within = to_within s };
      from_falls = from_falls s;
      to_grows = to_grows s;
      left = λ n h. omega (arith, from_total s n h, of_this_kind s);
      came = λ n c h. omega (arith, to_total s n c h, of_this_kind s);
      this_kind = omega (arith, of_this_kind s);
      other_kind = of_other_kind s;
    }
