-- What `Left` and `LeftAll` say fixes all that is left: the lists of queues, the log and the answer.
-- Assumes nothing.
use Prim.Native.Nat.{ℕ}
use mathlib.Core.Path.{◌≡◌, refl}
use mathlib.Core.List.{List, []}
use Rattle.base.proofs.Unique.{determined}
use Rattle.queues.specs.declared.Queues.{Queues}
use Rattle.queues.specs.declared.Went.{Went}
use Rattle.queues.specs.Flow.{Flow}
use Rattle.queues.specs.Slot.{Done}
use Rattle.queues.specs.Lent.{Left, Held, LeftAll}

pub left_one : {f : Flow} {log : List ℕ} {at : ℕ} {from from' to to' kept kept' : List ℕ} {r r' : Went} → Left f from to log kept at r → Left f from' to' log kept' at r' → ◌≡◌ {A = Went × List ℕ × List ℕ × List ℕ} (r, from, to, kept) (r', from', to', kept')
left_one x y =
    λ i. (
      record { at = determined x.of_at y.of_at i; moved = determined x.of_moved y.of_moved i },
      determined x.of_from y.of_from i,
      determined x.of_to y.of_to i,
      determined x.of_log y.of_log i,
    )

pub left_all_one : {d : Done} {log : List ℕ} {at : ℕ} {inlen inlen' outlen outlen' crosslen crosslen' kept kept' : List ℕ} {r r' : ℕ} → LeftAll d inlen outlen crosslen log kept at r → LeftAll d inlen' outlen' crosslen' log kept' at r' → ◌≡◌ {A = ℕ × List ℕ × List ℕ × List ℕ × List ℕ} (r, inlen, outlen, crosslen, kept) (r', inlen', outlen', crosslen', kept')
left_all_one x y =
    λ i. (
      determined x.of_at y.of_at i,
      determined x.of_inlen y.of_inlen i,
      determined x.of_outlen y.of_outlen i,
      determined x.of_crosslen y.of_crosslen i,
      determined x.of_log y.of_log i,
    )

-- queues that lent arrays hold, whatever they are
module _ (outcap crosscap inlen outlen crosslen : List ℕ) where
  abbrev pub held : Queues
  held = record { incap = []; outcap = outcap; crosscap = crosscap; inlen = inlen; outlen = outlen; crosslen = crosslen }

  pub is_held : Held held outcap crosscap inlen outlen crosslen
  is_held = record { of_outcap = refl; of_crosscap = refl; of_inlen = refl; of_outlen = refl; of_crosslen = refl }
