-- Where a reader goes on, and where it stays as it is: at the end, and over a bad trace. First of the slot, then of the reader that a
-- request leaves.
-- Assumes nothing.
use Prim.Native.Nat.{ℕ, ◌+◌, ◌≤◌}
use mathlib.Core.Path.{◌≡◌, refl, ap, ◌∙◌}
use mathlib.Core.List.{List, []}
use borrow.Author.Tests.{le-ltb}
use denote.Ref.{Bor}
use Rattle.std.specs.Prelude.{Option, Some, None, Result, Ok, Err}
use Rattle.base.specs.declared.Refusal.{Refusal}
use Rattle.layout.specs.declared.Header.{Header}
use Rattle.trace.specs.declared.Standing.TheVariants.{Arrivals, NoMore}
use Rattle.trace.specs.Reading.{verdict}
use Rattle.trace.specs.Slots.{standing, standing_in, slot_part, part_at}
use Rattle.reader.specs.declared.Reader.{Reader}
use Rattle.reader.specs.Requests.{slot_from, slot_after, standing_of, Answered}

module _ (s : List ℕ) (t : ℕ) where
  -- after arrivals come those of the next slot
  pub goes_on : standing s t ≡ Ok Arrivals → slot_after s t ≡ t + 1
  unfolding slot_after slot_from
  goes_on e = rw e

  -- "no more" hands nothing out, and leaves the slot as it is
  pub stays_at_end : standing s t ≡ Ok NoMore → slot_after s t ≡ t
  unfolding slot_after slot_from
  stays_at_end e = rw e

  pub none_at_end : standing s t ≡ Ok NoMore → slot_part s t ≡ []
  unfolding slot_part part_at
  none_at_end e = rw e

  -- so does a refusal
  pub stays_refused : (n : Refusal) → standing s t ≡ Err n → slot_after s t ≡ t
  unfolding slot_after slot_from
  stays_refused n e = rw e

  pub none_refused : (n : Refusal) → standing s t ≡ Err n → slot_part s t ≡ []
  unfolding slot_part part_at
  none_refused n e = rw e

  -- there are no more from the number of slots on
  pub no_more_from : (h : Header) → verdict s ≡ Ok h → h.slots ≤ t → standing s t ≡ Ok NoMore
  unfolding standing standing_in
  no_more_from h e l = rw (e, le-ltb t h.slots l)

  -- over a bad trace a request at any slot gets the trace's refusal, and leaves the slot as it is
  pub stays_over_bad : (n : Refusal) → verdict s ≡ Err n → (standing s t ≡ Err n) × (slot_after s t ≡ t)
  stays_over_bad n e = let r : standing s t ≡ Err n = unfold standing standing_in in rw e in (r, stays_refused n r)

-- an answer that says "no more", or a refusal, is no other
none_told : (h : Result (Option (Bor (List ℕ))) Refusal) → standing_of h ≡ Ok NoMore → h ≡ Ok None
unfolding standing_of
none_told (Ok (Some p)) e = cc
none_told (Ok None) e = refl
none_told (Err n) e = cc

refusal_told : (h : Result (Option (Bor (List ℕ))) Refusal) (n : Refusal) → standing_of h ≡ Err n → h ≡ Err n
unfolding standing_of
refusal_told (Ok (Some p)) n e = cc
refusal_told (Ok None) n e = cc
refusal_told (Err m) n e = let w : m ≡ n = cc in ap Err w

-- r is asked, h is the answer, and q is the reader that the request leaves
module _ (r q : Reader) (h : Result (Option (Bor (List ℕ))) Refusal) (a : Answered r q h) where
  stays : slot_after r.trace.now r.slot ≡ r.slot → q ≡ r
  stays e = λ i. record { trace = a.trace i; slot = (a.slot ∙ e) i }

  -- "Where the slot it remembers is not below the number of slots it answers "no more" and stays as it is."
  pub reader_at_end : (x : Header) → verdict r.trace.now ≡ Ok x → x.slots ≤ r.slot → (h ≡ Ok None) × (q ≡ r)
  reader_at_end x e l =
      let n = no_more_from r.trace.now r.slot x e l in
      (none_told h (a.standing ∙ n), stays (stays_at_end r.trace.now r.slot n))

  -- "Over a bad trace every request to it gets the trace's refusal, 1 to 11, and it stays as it is too."
  pub reader_over_bad : (n : Refusal) → verdict r.trace.now ≡ Err n → (h ≡ Err n) × (q ≡ r)
  reader_over_bad n e =
      let b = stays_over_bad r.trace.now r.slot n e in
      (refusal_told h n (a.standing ∙ b.0), stays b.1)

  -- two requests in a row: the second finds what stands at the slot that the first goes on to
  pub in_a_row : (p : Reader) (j : Result (Option (Bor (List ℕ))) Refusal) → Answered q p j → standing_of j ≡ standing r.trace.now (slot_after r.trace.now r.slot)
  in_a_row p j b = b.standing ∙ ap (λ (s : Bor (List ℕ)). standing s.now q.slot) a.trace ∙ ap (standing r.trace.now) a.slot
