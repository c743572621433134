-- Closings one after another, and draining. As long as the slot number stays within its bound every closing keeps the switch allowed and
-- leaves one packet fewer, so after as many closings as packets were held nothing is held. The count of quiet slots is the least after which
-- nothing is held: it is at most what was held, the switch is empty after it, and before it never.
-- Assumes nothing.
use Prim.Native.Nat.{ℕ, zero, suc, ◌+◌, ◌-◌, ◌≤◌, ◌<◌}
use native.Mathlib.Numerals.{add-one}
use native.Mathlib.Omega.{arith}
use mathlib.Core.Path.{◌≡◌, refl, sym, ap, ◌∙◌}
use mathlib.Core.Logic.{◌≢◌, ⊎_elim}
use mathlib.Core.Bool.{true}
use lib.Dec.{eqb}
use borrow.Author.Tests.{leb-true, le-leb, lt-leb, eqb-true, eqb-false, eq-eqb, ne_eqb}
use Rattle.std.specs.Prelude.{Ok}
use Rattle.base.specs.Refusal.{judged_with}
use Rattle.base.proofs.Lowest.{lowest_bound, lowest_passes, lowest_least, lowest_first, lowest_found, lowest_none}
use Rattle.base.proofs.Order.{le_or_lt}
use Rattle.base.proofs.RefusalLaws.{unless_zero, chain_zero}
use Rattle.slot_laws.proofs.Balance.{Sized}
use Rattle.switch.specs.declared.Switch.{Switch}
use Rattle.switch.specs.declared.Drain.TheVariants.{Empty, NotEmpty}
use Rattle.switch.specs.Switch.{held}
use Rattle.switch.specs.Allowed.{switch_allowed}
use Rattle.switch.specs.Steps.{close_step}
use Rattle.switch.specs.Draining.{drain_refusal, closings, quiet, drained_as, drained, drain}
use Rattle.switch.proofs.KeepsLaws.{close_keeps}
use Rattle.switch.proofs.ClosingLaws.{closed_counts, held_falls}

-- w is an allowed switch after n closings of s: what closings leave alone is as it was
pub record After (s : Switch) (n : ℕ) (w : Switch) : Type 0 where
  pub allowed : switch_allowed w ≡ true
  pub sized : Sized w.queues
  pub slot : w.slot ≡ s.slot + n
  pub model : w.model ≡ s.model
  pub order : w.order ≡ s.order
  pub ports : w.ports ≡ s.ports
  pub speedup : w.speedup ≡ s.speedup
  pub arrived : w.arrived ≡ s.arrived
  pub dropped : w.dropped ≡ s.dropped

module _ (s : Switch) (z : Sized s.queues) (e : switch_allowed s ≡ true) where
  after_closing : (n : ℕ) (w : Switch) → s.slot + suc n ≤ 8192 → After s n w → After s (suc n) (close_step w)
  after_closing n w low a =
      let at = a.slot in
      let k = close_keeps w a.sized a.allowed (omega arith) in
      let c = closed_counts w a.sized a.allowed in
      record {
        allowed = k.0;
        sized = k.1;
        slot = ap (λ (x : Switch). x.slot) c ∙ omega arith;
        model = ap (λ (x : Switch). x.model) c ∙ a.model;
        order = ap (λ (x : Switch). x.order) c ∙ a.order;
        ports = ap (λ (x : Switch). x.ports) c ∙ a.ports;
        speedup = ap (λ (x : Switch). x.speedup) c ∙ a.speedup;
        arrived = ap (λ (x : Switch). x.arrived) c ∙ a.arrived;
        dropped = ap (λ (x : Switch). x.dropped) c ∙ a.dropped;
      }

  pub closings_keep : (n : ℕ) → s.slot + n ≤ 8192 → After s n (closings s n)
  unfolding closings
  closings_keep zero low =
      record {
        allowed = e;
        sized = z;
        slot = omega arith;
        model = refl;
        order = refl;
        ports = refl;
        speedup = refl;
        arrived = refl;
        dropped = refl;
      }
  closings_keep (suc n) low = after_closing n (closings s n) low (closings_keep n (omega arith))

  -- each closing leaves one packet fewer, or none
  pub closings_fall : (n : ℕ) → s.slot + suc n ≤ 8192 → held (closings s (suc n)) ≤ held (closings s n) - 1
  unfolding closings
  closings_fall n low =
      let a = closings_keep n (omega arith) in
      held_falls (closings s n) a.sized a.allowed

  pub closings_held : (n : ℕ) → s.slot + n ≤ 8192 → held (closings s n) ≤ held s - n
  unfolding closings
  closings_held zero low = omega arith
  closings_held (suc n) low =
      let rest = closings_held n (omega arith) in
      let falls = closings_fall n low in
      omega arith

  -- so as many closings as packets are held leave nothing
  pub held_empties : s.slot + held s ≤ 8192 → held (closings s (held s)) ≡ 0
  held_empties low = omega (arith, closings_held (held s) low)

pub closings_more : (s : Switch) (n : ℕ) → closings s (n + 1) ≡ close_step (closings s n)
unfolding closings
closings_more s n = rw add-one

-- the count of quiet slots is the least after which nothing is held
module _ (s : Switch) (limit : ℕ) where
  pub quiet_bound : quiet s limit ≤ suc limit
  unfolding quiet
  quiet_bound = lowest_bound (λ n. eqb (held (closings s n)) 0) (suc limit)

  pub quiet_empty : quiet s limit ≤ limit → held (closings s (quiet s limit)) ≡ 0
  unfolding quiet
  quiet_empty h = eqb-true _ 0 (lowest_passes (λ n. eqb (held (closings s n)) 0) (suc limit) (omega arith))

  pub quiet_least : (n : ℕ) → n < quiet s limit → held (closings s n) ≢ 0
  unfolding quiet
  quiet_least n h = eqb-false _ 0 (lowest_least (λ n. eqb (held (closings s n)) 0) (suc limit) n h)

  pub quiet_first : (n : ℕ) → held (closings s n) ≡ 0 → quiet s limit ≤ n
  unfolding quiet
  quiet_first n h = lowest_first (λ n. eqb (held (closings s n)) 0) (suc limit) n (eq-eqb _ 0 h)

  -- so it is the first number of closings that is found to leave nothing, and past the limit where none up to the limit does
  pub quiet_found : (n : ℕ) → n ≤ limit → held (closings s n) ≡ 0 → ((m : ℕ) → m < n → held (closings s m) ≢ 0) → quiet s limit ≡ n
  unfolding quiet
  quiet_found n l h before =
      lowest_found (λ n. eqb (held (closings s n)) 0) (suc limit) n (omega arith) (eq-eqb _ 0 h) (λ m less. ne_eqb _ 0 (before m less))

  pub quiet_none : ((m : ℕ) → m ≤ limit → held (closings s m) ≢ 0) → quiet s limit ≡ suc limit
  unfolding quiet
  quiet_none never = lowest_none (λ n. eqb (held (closings s n)) 0) (suc limit) (λ m less. ne_eqb _ 0 (never m (omega arith)))

  -- and at most what is held
  pub quiet_few : Sized s.queues → switch_allowed s ≡ true → s.slot + held s ≤ 8192 → quiet s limit ≤ held s
  quiet_few z e low = quiet_first (held s) (held_empties s z e low)

  pub drains : Sized s.queues → switch_allowed s ≡ true → s.slot + limit ≤ 8192 → held s ≤ limit → (quiet s limit ≤ held s) × (held (closings s (quiet s limit)) ≡ 0)
  drains z e low h = let few = quiet_few z e (omega arith) in (few, quiet_empty (omega arith))

  pub drain_may : drain_refusal s limit ≡ 0 → (switch_allowed s ≡ true) × (limit ≤ 4096) × (s.slot + limit ≤ 8192)
  unfolding drain_refusal
  drain_may r =
      let thirteen = chain_zero _ _ r in
      let sixteen = chain_zero _ _ thirteen.1 in
      (unless_zero _ 12 thirteen.0, leb-true _ _ (unless_zero _ 15 sixteen.0), leb-true _ _ (unless_zero _ 14 sixteen.1))

  -- a drain that ends empty, and one that does not
  drained_empty : quiet s limit ≤ limit → drained s limit ≡ record { drain = Empty (quiet s limit); switch = closings s (quiet s limit) }
  unfolding drained drained_as
  drained_empty h = rw (le-leb (quiet s limit) limit h)

  drained_not_empty : limit < quiet s limit → drained s limit ≡ record { drain = NotEmpty limit; switch = closings s limit }
  unfolding drained drained_as
  drained_not_empty h = rw (lt-leb (quiet s limit) limit h)

  drain_done : drain_refusal s limit ≡ 0 → drain s limit ≡ Ok (drained s limit)
  unfolding drain judged_with
  drain_done r = rw r

  pub drain_empty : drain_refusal s limit ≡ 0 → quiet s limit ≤ limit → drain s limit ≡ Ok (record { drain = Empty (quiet s limit); switch = closings s (quiet s limit) })
  drain_empty r h = drain_done r ∙ ap Ok (drained_empty h)

  pub drain_not_empty : drain_refusal s limit ≡ 0 → limit < quiet s limit → drain s limit ≡ Ok (record { drain = NotEmpty limit; switch = closings s limit })
  drain_not_empty r h = drain_done r ∙ ap Ok (drained_not_empty h)

-- what a drain whose limit is no less than what is held ends with
pub record Drains (s : Switch) (limit : ℕ) : Type 0 where
  pub answer : drain s limit ≡ Ok (record { drain = Empty (quiet s limit); switch = closings s (quiet s limit) })
  pub few : quiet s limit ≤ held s
  pub empty : held (closings s (quiet s limit)) ≡ 0
  pub least : (n : ℕ) → n < quiet s limit → held (closings s n) ≢ 0

pub drain_ends : (s : Switch) (limit : ℕ) → Sized s.queues → drain_refusal s limit ≡ 0 → held s ≤ limit → Drains s limit
drain_ends s limit z r h =
    let may = drain_may s limit r in
    let few = quiet_few s limit z may.0 (omega arith) in
    let within : quiet s limit ≤ limit = omega arith in
    record { answer = drain_empty s limit r within; few = few; empty = quiet_empty s limit within; least = quiet_least s limit }

-- a loop of closings that stops at a switch which holds nothing, and one that stops at its limit
module _ (s : Switch) (limit n : ℕ) (w : Switch) (le : n ≤ limit) (at : w ≡ closings s n) (before : (m : ℕ) → m < n → held (closings s m) ≡ 0 → ⊥) where
  pub ended_empty : held w ≡ 0 → record { drain = Empty n; switch = w } ≡ drained s limit
  ended_empty e =
      let found : quiet s limit ≡ n = quiet_found s limit n le (sym (ap held at) ∙ e) before in
      rw at (sym (rw found at (drained_empty s limit (rw found le))))

  pub ended_not_empty : limit ≤ n → (held w ≡ 0 → ⊥) → record { drain = NotEmpty limit; switch = w } ≡ drained s limit
  ended_not_empty ge some =
      let same : n ≡ limit = omega arith in
      let none : quiet s limit ≡ suc limit =
      quiet_none s limit
      (λ m h.
      ⊎_elim
      (λ (over : n ≤ m). λ (z : held (closings s m) ≡ 0). let e : m ≡ n = omega arith in some (ap held at ∙ (rw e at z)))
      (λ (less : m < n). before m less)
      (le_or_lt n m)) in
      rw (at, same) (sym (drained_not_empty s limit (rw none (omega arith))))
