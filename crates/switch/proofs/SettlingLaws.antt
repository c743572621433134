-- What the code's closing leaves, put together: the queues after all cycles and sendings, and the counts found from what they hold.
-- Assumes nothing.
use Prim.Native.Nat.{ℕ, ◌+◌, ◌≤◌, ◌<◌, min}
use native.Mathlib.Omega.{arith}
use mathlib.Core.Path.{◌≡◌, sym, ap, ap₂, ◌∙◌}
use mathlib.Core.Bool.{Bool, true}
use mathlib.Core.List.{List}
use lib.ListN.{take}
use borrow.Author.Tests.{ltb-true}
use Rattle.base.proofs.RefusalLaws.{unless_zero, chain_zero}
use Rattle.queues.specs.declared.Queues.{Queues}
use Rattle.queues.specs.Turn.{turn, turn_places}
use Rattle.queues.specs.Slot.{closing}
use Rattle.queues.proofs.TurnPlaces.{places_in_turn}
use Rattle.slot_laws.proofs.Balance.{Sized}
use Rattle.slot_laws.proofs.SlotLaws.{closing_balanced}
use Rattle.switch.specs.declared.Switch.{Switch}
use Rattle.switch.specs.Switch.{held_in, held_out, held_cross, held_all}
use Rattle.switch.specs.Allowed.{switch_allowed}
use Rattle.switch.specs.Steps.{close_refusal}

-- what is held and dropped, found by its three parts, is at most what arrived
pub held_arrived : (q : Queues) (d a i o x : ℕ) → held_all q + d ≤ a → i ≡ held_in q → o ≡ held_out q → x ≡ held_cross q → i + o + x + d ≤ a
unfolding held_all
held_arrived q d a i o x h ei eo ex = rw (ei, eo, ex) h

-- the closing that the code runs, on the first N of 16 places
pub same_closing : (crossbar : Bool) (q : Queues) (order ports speedup slot : ℕ) (places : List ℕ) → ports ≤ 16 → places ≡ turn_places order ports slot → closing crossbar q (min ports 16) (take (min ports 16) places) speedup slot ≡ closing crossbar q ports (turn order ports slot) speedup slot
same_closing crossbar q order ports speedup slot places few e =
    let n : min ports 16 ≡ ports = omega arith in
    let t : take (min ports 16) places ≡ turn order ports slot = ap (take (min ports 16)) e ∙ places_in_turn order ports slot few in
    ap₂ (λ (n : ℕ) (t : List ℕ). closing crossbar q n t speedup slot) n t

-- queues with the same capacities, from their lengths
with_lengths : (q p : Queues) (i o x : List ℕ) → p.incap ≡ q.incap → p.outcap ≡ q.outcap → p.crosscap ≡ q.crosscap → i ≡ p.inlen → o ≡ p.outlen → x ≡ p.crosslen → record { incap = q.incap; outcap = q.outcap; crosscap = q.crosscap; inlen = i; outlen = o; crosslen = x } ≡ p
with_lengths q p i o x a b c ei eo ex = λ t. record { incap = sym a t; outcap = sym b t; crosscap = sym c t; inlen = ei t; outlen = eo t; crosslen = ex t }

-- a closing changes lengths alone
pub closed_as : (crossbar : Bool) (q : Queues) (ports : ℕ) (inputs : List ℕ) (speedup slot : ℕ) (i o x : List ℕ) → Sized q → ports ≤ 16 → i ≡ (closing crossbar q ports inputs speedup slot).queues.inlen → o ≡ (closing crossbar q ports inputs speedup slot).queues.outlen → x ≡ (closing crossbar q ports inputs speedup slot).queues.crosslen → record { incap = q.incap; outcap = q.outcap; crosscap = q.crosscap; inlen = i; outlen = o; crosslen = x } ≡ (closing crossbar q ports inputs speedup slot).queues
closed_as crossbar q ports inputs speedup slot i o x z few ei eo ex =
    let k = (closing_balanced ports few inputs slot crossbar q z speedup).kept in
    with_lengths q (closing crossbar q ports inputs speedup slot).queues i o x k.incap k.outcap k.crosscap ei eo ex

pub may_close : (s : Switch) → close_refusal s ≡ 0 → (switch_allowed s ≡ true) × (s.slot < 8192)
unfolding close_refusal
may_close s e = let a = chain_zero _ _ e in (unless_zero _ 12 a.0, ltb-true _ _ (unless_zero _ 14 a.1))
