-- What a step of a slot keeps, and how its events account for the queues: packets leave the input queues by events of kind 3, the
-- crosspoints by kind 4 and the output queues by kind 5. They come to the crosspoints by kind 3 and to the output queues by kind 4, or, in
-- a CIOQ switch, to the output queues by kind 3. This is closed under one step after another, so it is shown of each part of a cycle and of
-- the sendings alone.
-- Assumes nothing.
use Prim.Native.Nat.{ℕ, ◌+◌}
use native.Mathlib.Omega.{arith}
use mathlib.Core.Path.{◌≡◌, refl, ap, ◌∙◌}
use mathlib.Core.Bool.{Bool, true, false, cond}
use mathlib.Core.List.{List, ◌++◌}
use lib.ListN.{length}
use Rattle.base.proofs.Cases.{not_both}
use Rattle.base.proofs.Sums.{total}
use Rattle.queues.specs.declared.Queues.{Queues}
use Rattle.queues.specs.Queues.{lengths}
use Rattle.queues.specs.Events.{of_kind}
use Rattle.queues.specs.Flow.{Flow}
use Rattle.queues.specs.Slot.{Done, begun, after, matched, crossed_over, outmoved_over, Sendings, send_over}
use Rattle.slot_laws.proofs.QueueLengths.{Within, Alike, alike_same, alike_then}
use Rattle.slot_laws.proofs.EventsLaws.{of_both}
use Rattle.slot_laws.proofs.Flows.{Part}
use Rattle.slot_laws.proofs.SendingsLaws.{Sending, sent_length, sent_within, sent_total, sent_kind, sent_other_kind}

-- the lists have their lengths
pub record Sized (q : Queues) : Type 0 where
  pub incap : length q.incap ≡ 256
  pub outcap : length q.outcap ≡ 16
  pub crosscap : length q.crosscap ≡ 256
  pub inlen : length q.inlen ≡ 256
  pub outlen : length q.outlen ≡ 16
  pub crosslen : length q.crosslen ≡ 256

-- no queue is above its capacity
pub record Bounded (q : Queues) : Type 0 where
  pub inlen : Within q.incap q.inlen
  pub outlen : Within q.outcap q.outlen
  pub crosslen : Within q.crosscap q.crosslen

-- what stays of q in p: the capacities, and of the lengths what `Alike` says
pub record Kept (q p : Queues) : Type 0 where
  pub incap : p.incap ≡ q.incap
  pub outcap : p.outcap ≡ q.outcap
  pub crosscap : p.crosscap ≡ q.crosscap
  pub inlen : Alike q.incap q.inlen p.inlen
  pub outlen : Alike q.outcap q.outlen p.outlen
  pub crosslen : Alike q.crosscap q.crosslen p.crosslen

pub kept_sized : {q p : Queues} → Kept q p → Sized q → Sized p
kept_sized k s =
    record {
      incap = ap length k.incap ∙ s.incap;
      outcap = ap length k.outcap ∙ s.outcap;
      crosscap = ap length k.crosscap ∙ s.crosscap;
      inlen = k.inlen.same_length ∙ s.inlen;
      outlen = k.outlen.same_length ∙ s.outlen;
      crosslen = k.crosslen.same_length ∙ s.crosslen;
    }

pub kept_bounded : {q p : Queues} → Kept q p → Bounded q → Bounded p
kept_bounded k b =
    record {
      inlen = rw k.incap (k.inlen.within b.inlen);
      outlen = rw k.outcap (k.outlen.within b.outlen);
      crosslen = rw k.crosscap (k.crosslen.within b.crosslen);
    }

-- the capacities of q with other lengths
pub kept_lengths : (q : Queues) (inlen outlen crosslen : List ℕ) → Alike q.incap q.inlen inlen → Alike q.outcap q.outlen outlen
    → Alike q.crosscap q.crosslen crosslen → Kept q (lengths q inlen outlen crosslen)
unfolding lengths
kept_lengths q inlen outlen crosslen a b c =
    record { incap = refl; outcap = refl; crosscap = refl; inlen = a; outlen = b; crosslen = c }

pub kept_same : (q : Queues) → Kept q q
unfolding lengths
kept_same q = kept_lengths q q.inlen q.outlen q.crosslen alike_same alike_same alike_same

pub kept_then : {q p r : Queues} → Kept q p → Kept p r → Kept q r
kept_then a b =
    record {
      incap = b.incap ∙ a.incap;
      outcap = b.outcap ∙ a.outcap;
      crosscap = b.crosscap ∙ a.crosscap;
      inlen = alike_then a.inlen (rw a.incap at b.inlen);
      outlen = alike_then a.outlen (rw a.outcap at b.outlen);
      crosslen = alike_then a.crosslen (rw a.crosscap at b.crosslen);
    }

-- from q a step comes to the queues of d, with the events of d. Of a CIOQ switch the crosspoints take no part
pub record Balanced (crossbar : Bool) (q : Queues) (d : Done) : Type 0 where
  pub kept : Kept q d.queues
  pub accepted : of_kind 1 d.events ≡ 0
  pub dropped : of_kind 2 d.events ≡ 0
  pub inputs : total d.queues.inlen 256 + of_kind 3 d.events ≡ total q.inlen 256
  pub crosspoints : total d.queues.crosslen 256 + of_kind 4 d.events ≡ total q.crosslen 256 + cond crossbar (of_kind 3 d.events) 0
  pub outputs : total d.queues.outlen 16 + of_kind 5 d.events ≡ total q.outlen 16 + cond crossbar (of_kind 4 d.events) (of_kind 3 d.events)
  pub apart : crossbar ≡ false → (d.queues.crosslen ≡ q.crosslen) × (of_kind 4 d.events ≡ 0)

zero_either : (t : Bool) → ◌≡◌ {A = ℕ} (cond t 0 0) 0
zero_either true = refl
zero_either false = refl

-- nothing done
pub balanced_none : (crossbar : Bool) (q : Queues) → Balanced crossbar q (begun q)
unfolding begun of_kind
balanced_none crossbar q =
    let nothing = zero_either crossbar in
    record {
      kept = kept_same q;
      accepted = refl;
      dropped = refl;
      inputs = omega arith;
      crosspoints = omega arith;
      outputs = omega arith;
      apart = λ e. (refl, refl);
    }

-- one thing after another
module _ (b c : Done) where
  both : (kind : ℕ) → of_kind kind (b.events ++ c.events) ≡ of_kind kind b.events + of_kind kind c.events
  both kind = of_both kind b.events c.events

  pub balanced_after : (crossbar : Bool) {q : Queues} → Balanced crossbar q b → Balanced crossbar b.queues c → Balanced crossbar q (after b c)
  unfolding after
  balanced_after true x y =
      record {
        kept = kept_then x.kept y.kept;
        accepted = omega (arith, both 1, x.accepted, y.accepted);
        dropped = omega (arith, both 2, x.dropped, y.dropped);
        inputs = omega (arith, both 3, x.inputs, y.inputs);
        crosspoints = omega (arith, both 3, both 4, x.crosspoints, y.crosspoints);
        outputs = omega (arith, both 4, both 5, x.outputs, y.outputs);
        apart = λ e. absurd (not_both refl e);
      }
  balanced_after false x y =
      record {
        kept = kept_then x.kept y.kept;
        accepted = omega (arith, both 1, x.accepted, y.accepted);
        dropped = omega (arith, both 2, x.dropped, y.dropped);
        inputs = omega (arith, both 3, x.inputs, y.inputs);
        crosspoints = omega (arith, both 4, x.crosspoints, y.crosspoints);
        outputs = omega (arith, both 3, both 5, x.outputs, y.outputs);
        apart = λ e. ((y.apart refl).0 ∙ (x.apart refl).0, omega (arith, both 4, (x.apart refl).1, (y.apart refl).1));
      }

-- what is held in all falls by what is sent
pub balanced_held : (crossbar : Bool) {q : Queues} {d : Done} → Balanced crossbar q d
    → total d.queues.inlen 256 + total d.queues.outlen 16 + total d.queues.crosslen 256 + of_kind 5 d.events
    ≡ total q.inlen 256 + total q.outlen 16 + total q.crosslen 256
balanced_held true x = omega (arith, x.inputs, x.crosspoints, x.outputs)
balanced_held false x = omega (arith, x.inputs, x.crosspoints, x.outputs, (x.apart refl).1)

module _ (q : Queues) (s : Sized q) where
  -- a cycle of the CIOQ switch
  pub matched_balanced : (f : Flow) → Part q.outcap 3 q.inlen q.outlen f → Balanced false q (matched q f)
  unfolding matched lengths
  matched_balanced f p =
      record {
        kept = kept_lengths q f.from f.to q.crosslen (p.from_kept q.incap) p.to_kept alike_same;
        accepted = p.other_kind 1 (omega arith);
        dropped = p.other_kind 2 (omega arith);
        inputs = p.left 256 (omega (arith, s.inlen));
        crosspoints = omega (arith, p.other_kind 4 (omega arith));
        outputs = omega (arith, p.other_kind 5 (omega arith), p.came 16 (omega (arith, s.outcap, s.outlen)) (omega (arith, s.outlen)));
        apart = λ e. (refl, p.other_kind 4 (omega arith));
      }

  -- the two parts of a cycle of the crossbar
  pub crossed_balanced : (f : Flow) → Part q.crosscap 3 q.inlen q.crosslen f → Balanced true q (crossed_over q f)
  unfolding crossed_over lengths
  crossed_balanced f p =
      record {
        kept = kept_lengths q f.from q.outlen f.to (p.from_kept q.incap) alike_same p.to_kept;
        accepted = p.other_kind 1 (omega arith);
        dropped = p.other_kind 2 (omega arith);
        inputs = p.left 256 (omega (arith, s.inlen));
        crosspoints = omega (arith, p.other_kind 4 (omega arith), p.came 256 (omega (arith, s.crosscap, s.crosslen)) (omega (arith, s.crosslen)));
        outputs = omega (arith, p.other_kind 4 (omega arith), p.other_kind 5 (omega arith));
        apart = λ e. absurd (not_both refl e);
      }

  pub outmoved_balanced : (f : Flow) → Part q.outcap 4 q.crosslen q.outlen f → Balanced true q (outmoved_over q f)
  unfolding outmoved_over lengths
  outmoved_balanced f p =
      record {
        kept = kept_lengths q q.inlen f.to f.from alike_same p.to_kept (p.from_kept q.crosscap);
        accepted = p.other_kind 1 (omega arith);
        dropped = p.other_kind 2 (omega arith);
        inputs = omega (arith, p.other_kind 3 (omega arith));
        crosspoints = omega (arith, p.other_kind 3 (omega arith), p.left 256 (omega (arith, s.crosslen)));
        outputs = omega (arith, p.other_kind 5 (omega arith), p.came 16 (omega (arith, s.outcap, s.outlen)) (omega (arith, s.outlen)));
        apart = λ e. absurd (not_both refl e);
      }

  -- the sendings
  pub sent_balanced : (crossbar : Bool) {may : ℕ → Bool} {slot ports : ℕ} (f : Sendings) → Sending may q.outlen slot ports f
      → Balanced crossbar q (send_over q f)
  unfolding send_over lengths
  sent_balanced crossbar f t =
      let three = sent_other_kind t 3 (omega arith) in
      let four = sent_other_kind t 4 (omega arith) in
      let nothing : cond crossbar (of_kind 3 f.events) 0 ≡ 0 = rw three (zero_either crossbar) in
      let neither : cond crossbar (of_kind 4 f.events) (of_kind 3 f.events) ≡ 0 = rw (three, four) (zero_either crossbar) in
      record {
        kept =
            kept_lengths q q.inlen f.outlen q.crosslen alike_same
            (record { same_length = sent_length t; within = sent_within t q.outcap })
            alike_same;
        accepted = sent_other_kind t 1 (omega arith);
        dropped = sent_other_kind t 2 (omega arith);
        inputs = omega arith;
        crosspoints = omega arith;
        outputs = omega (arith, sent_kind t, sent_total t 16 (omega (arith, s.outlen)));
        apart = λ e. (refl, four);
      }
