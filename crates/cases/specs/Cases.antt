-- The bench cases of document 01 as rows of one table: the bytes of a trace file, the words of log that are lent (each 9 before the run), a drain's limit, and what
-- is to be found: the refusal's number, the whole lent log after the run, the counts, the loss per thousand, and how a drain at the trace's end
-- ends. After the paper's cases stand rows that catch the "errors seen in models like this" which they let through.
use Rattle.std.specs.Prelude.{ℕ, zero, suc, List, [], ◌∷◌, Result, Ok, Err, length, replicate}
use Rattle.base.specs.declared.Refused.{Refused}
use Rattle.base.specs.Refusal.{number, refusal_with}
use Rattle.run.specs.declared.Counts.{Counts}
use Rattle.run.specs.Run.{whole, running, ran, ran_log}
use Rattle.loss.specs.Loss.{per_thousand}
use Rattle.switch.specs.declared.Switch.{Switch}
use Rattle.switch.specs.declared.Drain.{Drain}
use Rattle.switch.specs.declared.Drain.TheVariants.{Empty, NotEmpty}
use Rattle.switch.specs.declared.Drained.{Drained}
use Rattle.switch.specs.Draining.{drain}

pub record Found : Type 0 where
  pub refusal : ℕ
  pub log : List ℕ
  pub counts : List ℕ
  pub loss : ℕ
  pub drained : Result Drain ℕ

pub record Row : Type 0 where
  pub file : List ℕ
  pub room : ℕ
  pub limit : ℕ
  pub found : Found

-- how a drain ends, or its refusal's number
ends : Result Drained (Refused Switch) → Result Drain ℕ
ends (Ok d) = Ok d.drain
ends (Err r) = Err (number r.refusal)

-- the same at the end of the trace; a refused trace has none
drain_at : ℕ → List ℕ → ℕ → Result Drain ℕ
drain_at zero s limit = ends (drain (whole s).switch limit)
drain_at (suc n) s limit = Err (suc n)

-- the counts, also those that a refusal hands back
counts_in : Result Counts (Refused Counts) → Counts
counts_in (Ok c) = c
counts_in (Err r) = r.answer

counts_list : Counts → List ℕ
counts_list c = c.arrived ∷ c.dropped ∷ c.crossed ∷ c.outmoved ∷ c.sent ∷ c.held ∷ []

-- what the definitions find
unfoldable pub find : List ℕ → ℕ → ℕ → Found
unfolding ends drain_at counts_in counts_list
find s room limit =
    let log : List ℕ = replicate room 9 in
    let r = ran s log in
    let counts = counts_in r in
    record {
      refusal = refusal_with r;
      log = ran_log s log;
      counts = counts_list counts;
      loss = per_thousand counts.dropped counts.arrived;
      drained = drain_at (running s (length log)) s limit;
    }

-- C1, and C10's accepted half: 15 words of log; the drain as the report prints it
C1 : Row
C1 =
    record {
      file =
          1 ∷ 0 ∷ 0 ∷ 0 ∷ 1 ∷ 0 ∷ 0 ∷ 0 ∷ 2 ∷ 0 ∷ 0 ∷ 0 ∷ 1 ∷ 0 ∷ 0 ∷ 0 ∷ 2 ∷ 0 ∷ 0 ∷ 0 ∷ 5 ∷ 0 ∷ 0 ∷ 0 ∷ 40 ∷ 0 ∷ 0 ∷
          0 ∷ 52 ∷ 0 ∷ 0 ∷ 0 ∷ 56 ∷ 0 ∷ 0 ∷ 0 ∷ 66 ∷ 0 ∷ 0 ∷ 0 ∷ 1 ∷ 0 ∷ 1 ∷ 0 ∷ 1 ∷ 0 ∷ 1 ∷ 0 ∷ 1 ∷ 0 ∷ 1 ∷ 0 ∷ 4 ∷
          0 ∷ 1 ∷ 0 ∷ 0 ∷ 0 ∷ 0 ∷ 0 ∷ 0 ∷ 1 ∷ 1 ∷ 0 ∷ 1 ∷ 1 ∷ [];
      room = 15;
      limit = 4096;
      found =
          record {
            refusal = 0;
            log =
                0x10000000 ∷ 0x20000000 ∷ 0x10000001 ∷ 0x10000010 ∷ 0x30000000 ∷ 0x50000000 ∷ 0x10010011 ∷ 0x30010001 ∷
                0x30010010 ∷ 0x50010000 ∷ 0x50010001 ∷ 9 ∷ 9 ∷ 9 ∷ 9 ∷ [];
            counts = 5 ∷ 1 ∷ 3 ∷ 3 ∷ 3 ∷ 1 ∷ [];
            loss = 200;
            drained = Ok (Empty 1);
          };
    }

-- C2: 44 bytes, accepted, all counts 0, drain 0
C2 : Row
C2 =
    record {
      file =
          1 ∷ 0 ∷ 0 ∷ 0 ∷ 1 ∷ 0 ∷ 0 ∷ 0 ∷ 1 ∷ 0 ∷ 0 ∷ 0 ∷ 1 ∷ 0 ∷ 0 ∷ 0 ∷ 0 ∷ 0 ∷ 0 ∷ 0 ∷ 0 ∷ 0 ∷ 0 ∷ 0 ∷ 40 ∷ 0 ∷ 0 ∷
          0 ∷ 44 ∷ 0 ∷ 0 ∷ 0 ∷ 44 ∷ 0 ∷ 0 ∷ 0 ∷ 44 ∷ 0 ∷ 0 ∷ 0 ∷ 1 ∷ 0 ∷ 1 ∷ 0 ∷ [];
      room = 0;
      limit = 4096;
      found =
          record {
            refusal = 0;
            log = [];
            counts = 0 ∷ 0 ∷ 0 ∷ 0 ∷ 0 ∷ 0 ∷ [];
            loss = 0;
            drained = Ok (Empty 0);
          };
    }

-- C3: one byte more and total 45
C3 : Row
C3 =
    record {
      file =
          1 ∷ 0 ∷ 0 ∷ 0 ∷ 1 ∷ 0 ∷ 0 ∷ 0 ∷ 1 ∷ 0 ∷ 0 ∷ 0 ∷ 1 ∷ 0 ∷ 0 ∷ 0 ∷ 0 ∷ 0 ∷ 0 ∷ 0 ∷ 0 ∷ 0 ∷ 0 ∷ 0 ∷ 40 ∷ 0 ∷ 0 ∷
          0 ∷ 44 ∷ 0 ∷ 0 ∷ 0 ∷ 44 ∷ 0 ∷ 0 ∷ 0 ∷ 45 ∷ 0 ∷ 0 ∷ 0 ∷ 1 ∷ 0 ∷ 1 ∷ 0 ∷ 0 ∷ [];
      room = 0;
      limit = 0;
      found =
          record {
            refusal = 8;
            log = [];
            counts = 0 ∷ 0 ∷ 0 ∷ 0 ∷ 0 ∷ 0 ∷ [];
            loss = 0;
            drained = Err 8;
          };
    }

-- C4: N 16 passes
C4-passes : Row
C4-passes =
    record {
      file =
          1 ∷ 0 ∷ 0 ∷ 0 ∷ 1 ∷ 0 ∷ 0 ∷ 0 ∷ 16 ∷ 0 ∷ 0 ∷ 0 ∷ 1 ∷ 0 ∷ 0 ∷ 0 ∷ 0 ∷ 0 ∷ 0 ∷ 0 ∷ 0 ∷ 0 ∷ 0 ∷ 0 ∷ 40 ∷ 0 ∷ 0 ∷
          0 ∷ 72 ∷ 2 ∷ 0 ∷ 0 ∷ 72 ∷ 2 ∷ 0 ∷ 0 ∷ 72 ∷ 2 ∷ 0 ∷ 0 ∷ 1 ∷ 0 ∷ 1 ∷ 0 ∷ 1 ∷ 0 ∷ 1 ∷ 0 ∷ 1 ∷ 0 ∷ 1 ∷ 0 ∷ 1 ∷
          0 ∷ 1 ∷ 0 ∷ 1 ∷ 0 ∷ 1 ∷ 0 ∷ 1 ∷ 0 ∷ 1 ∷ 0 ∷ 1 ∷ 0 ∷ 1 ∷ 0 ∷ 1 ∷ 0 ∷ 1 ∷ 0 ∷ 1 ∷ 0 ∷ 1 ∷ 0 ∷ 1 ∷ 0 ∷ 1 ∷ 0 ∷
          1 ∷ 0 ∷ 1 ∷ 0 ∷ 1 ∷ 0 ∷ 1 ∷ 0 ∷ 1 ∷ 0 ∷ 1 ∷ 0 ∷ 1 ∷ 0 ∷ 1 ∷ 0 ∷ 1 ∷ 0 ∷ 1 ∷ 0 ∷ 1 ∷ 0 ∷ 1 ∷ 0 ∷ 1 ∷ 0 ∷ 1 ∷
          0 ∷ 1 ∷ 0 ∷ 1 ∷ 0 ∷ 1 ∷ 0 ∷ 1 ∷ 0 ∷ 1 ∷ 0 ∷ 1 ∷ 0 ∷ 1 ∷ 0 ∷ 1 ∷ 0 ∷ 1 ∷ 0 ∷ 1 ∷ 0 ∷ 1 ∷ 0 ∷ 1 ∷ 0 ∷ 1 ∷ 0 ∷
          1 ∷ 0 ∷ 1 ∷ 0 ∷ 1 ∷ 0 ∷ 1 ∷ 0 ∷ 1 ∷ 0 ∷ 1 ∷ 0 ∷ 1 ∷ 0 ∷ 1 ∷ 0 ∷ 1 ∷ 0 ∷ 1 ∷ 0 ∷ 1 ∷ 0 ∷ 1 ∷ 0 ∷ 1 ∷ 0 ∷ 1 ∷
          0 ∷ 1 ∷ 0 ∷ 1 ∷ 0 ∷ 1 ∷ 0 ∷ 1 ∷ 0 ∷ 1 ∷ 0 ∷ 1 ∷ 0 ∷ 1 ∷ 0 ∷ 1 ∷ 0 ∷ 1 ∷ 0 ∷ 1 ∷ 0 ∷ 1 ∷ 0 ∷ 1 ∷ 0 ∷ 1 ∷ 0 ∷
          1 ∷ 0 ∷ 1 ∷ 0 ∷ 1 ∷ 0 ∷ 1 ∷ 0 ∷ 1 ∷ 0 ∷ 1 ∷ 0 ∷ 1 ∷ 0 ∷ 1 ∷ 0 ∷ 1 ∷ 0 ∷ 1 ∷ 0 ∷ 1 ∷ 0 ∷ 1 ∷ 0 ∷ 1 ∷ 0 ∷ 1 ∷
          0 ∷ 1 ∷ 0 ∷ 1 ∷ 0 ∷ 1 ∷ 0 ∷ 1 ∷ 0 ∷ 1 ∷ 0 ∷ 1 ∷ 0 ∷ 1 ∷ 0 ∷ 1 ∷ 0 ∷ 1 ∷ 0 ∷ 1 ∷ 0 ∷ 1 ∷ 0 ∷ 1 ∷ 0 ∷ 1 ∷ 0 ∷
          1 ∷ 0 ∷ 1 ∷ 0 ∷ 1 ∷ 0 ∷ 1 ∷ 0 ∷ 1 ∷ 0 ∷ 1 ∷ 0 ∷ 1 ∷ 0 ∷ 1 ∷ 0 ∷ 1 ∷ 0 ∷ 1 ∷ 0 ∷ 1 ∷ 0 ∷ 1 ∷ 0 ∷ 1 ∷ 0 ∷ 1 ∷
          0 ∷ 1 ∷ 0 ∷ 1 ∷ 0 ∷ 1 ∷ 0 ∷ 1 ∷ 0 ∷ 1 ∷ 0 ∷ 1 ∷ 0 ∷ 1 ∷ 0 ∷ 1 ∷ 0 ∷ 1 ∷ 0 ∷ 1 ∷ 0 ∷ 1 ∷ 0 ∷ 1 ∷ 0 ∷ 1 ∷ 0 ∷
          1 ∷ 0 ∷ 1 ∷ 0 ∷ 1 ∷ 0 ∷ 1 ∷ 0 ∷ 1 ∷ 0 ∷ 1 ∷ 0 ∷ 1 ∷ 0 ∷ 1 ∷ 0 ∷ 1 ∷ 0 ∷ 1 ∷ 0 ∷ 1 ∷ 0 ∷ 1 ∷ 0 ∷ 1 ∷ 0 ∷ 1 ∷
          0 ∷ 1 ∷ 0 ∷ 1 ∷ 0 ∷ 1 ∷ 0 ∷ 1 ∷ 0 ∷ 1 ∷ 0 ∷ 1 ∷ 0 ∷ 1 ∷ 0 ∷ 1 ∷ 0 ∷ 1 ∷ 0 ∷ 1 ∷ 0 ∷ 1 ∷ 0 ∷ 1 ∷ 0 ∷ 1 ∷ 0 ∷
          1 ∷ 0 ∷ 1 ∷ 0 ∷ 1 ∷ 0 ∷ 1 ∷ 0 ∷ 1 ∷ 0 ∷ 1 ∷ 0 ∷ 1 ∷ 0 ∷ 1 ∷ 0 ∷ 1 ∷ 0 ∷ 1 ∷ 0 ∷ 1 ∷ 0 ∷ 1 ∷ 0 ∷ 1 ∷ 0 ∷ 1 ∷
          0 ∷ 1 ∷ 0 ∷ 1 ∷ 0 ∷ 1 ∷ 0 ∷ 1 ∷ 0 ∷ 1 ∷ 0 ∷ 1 ∷ 0 ∷ 1 ∷ 0 ∷ 1 ∷ 0 ∷ 1 ∷ 0 ∷ 1 ∷ 0 ∷ 1 ∷ 0 ∷ 1 ∷ 0 ∷ 1 ∷ 0 ∷
          1 ∷ 0 ∷ 1 ∷ 0 ∷ 1 ∷ 0 ∷ 1 ∷ 0 ∷ 1 ∷ 0 ∷ 1 ∷ 0 ∷ 1 ∷ 0 ∷ 1 ∷ 0 ∷ 1 ∷ 0 ∷ 1 ∷ 0 ∷ 1 ∷ 0 ∷ 1 ∷ 0 ∷ 1 ∷ 0 ∷ 1 ∷
          0 ∷ 1 ∷ 0 ∷ 1 ∷ 0 ∷ 1 ∷ 0 ∷ 1 ∷ 0 ∷ 1 ∷ 0 ∷ 1 ∷ 0 ∷ 1 ∷ 0 ∷ 1 ∷ 0 ∷ 1 ∷ 0 ∷ 1 ∷ 0 ∷ 1 ∷ 0 ∷ 1 ∷ 0 ∷ 1 ∷ 0 ∷
          1 ∷ 0 ∷ 1 ∷ 0 ∷ 1 ∷ 0 ∷ 1 ∷ 0 ∷ 1 ∷ 0 ∷ 1 ∷ 0 ∷ 1 ∷ 0 ∷ 1 ∷ 0 ∷ 1 ∷ 0 ∷ 1 ∷ 0 ∷ 1 ∷ 0 ∷ 1 ∷ 0 ∷ 1 ∷ 0 ∷ 1 ∷
          0 ∷ 1 ∷ 0 ∷ 1 ∷ 0 ∷ 1 ∷ 0 ∷ 1 ∷ 0 ∷ 1 ∷ 0 ∷ 1 ∷ 0 ∷ 1 ∷ 0 ∷ 1 ∷ 0 ∷ 1 ∷ 0 ∷ 1 ∷ 0 ∷ 1 ∷ 0 ∷ 1 ∷ 0 ∷ 1 ∷ 0 ∷
          1 ∷ 0 ∷ 1 ∷ 0 ∷ 1 ∷ 0 ∷ 1 ∷ 0 ∷ 1 ∷ 0 ∷ 1 ∷ 0 ∷ 1 ∷ 0 ∷ 1 ∷ 0 ∷ 1 ∷ 0 ∷ 1 ∷ 0 ∷ 1 ∷ 0 ∷ 1 ∷ 0 ∷ 1 ∷ 0 ∷ 1 ∷
          0 ∷ 1 ∷ 0 ∷ 1 ∷ 0 ∷ 1 ∷ 0 ∷ 1 ∷ 0 ∷ 1 ∷ 0 ∷ 1 ∷ 0 ∷ 1 ∷ 0 ∷ 1 ∷ 0 ∷ 1 ∷ 0 ∷ 1 ∷ 0 ∷ 1 ∷ 0 ∷ 1 ∷ 0 ∷ 1 ∷ 0 ∷
          1 ∷ 0 ∷ 1 ∷ 0 ∷ 1 ∷ 0 ∷ 1 ∷ 0 ∷ 1 ∷ 0 ∷ 1 ∷ 0 ∷ 1 ∷ 0 ∷ 1 ∷ 0 ∷ 1 ∷ 0 ∷ [];
      room = 0;
      limit = 0;
      found =
          record {
            refusal = 0;
            log = [];
            counts = 0 ∷ 0 ∷ 0 ∷ 0 ∷ 0 ∷ 0 ∷ [];
            loss = 0;
            drained = Ok (Empty 0);
          };
    }

-- C4: N 17
C4-refused : Row
C4-refused =
    record {
      file =
          1 ∷ 0 ∷ 0 ∷ 0 ∷ 1 ∷ 0 ∷ 0 ∷ 0 ∷ 17 ∷ 0 ∷ 0 ∷ 0 ∷ 1 ∷ 0 ∷ 0 ∷ 0 ∷ 0 ∷ 0 ∷ 0 ∷ 0 ∷ 0 ∷ 0 ∷ 0 ∷ 0 ∷ 40 ∷ 0 ∷ 0 ∷
          0 ∷ 44 ∷ 0 ∷ 0 ∷ 0 ∷ 44 ∷ 0 ∷ 0 ∷ 0 ∷ 44 ∷ 0 ∷ 0 ∷ 0 ∷ 1 ∷ 0 ∷ 1 ∷ 0 ∷ [];
      room = 0;
      limit = 0;
      found =
          record {
            refusal = 4;
            log = [];
            counts = 0 ∷ 0 ∷ 0 ∷ 0 ∷ 0 ∷ 0 ∷ [];
            loss = 0;
            drained = Err 4;
          };
    }

-- C5: N 0 and speedup 0 together
C5 : Row
C5 =
    record {
      file =
          1 ∷ 0 ∷ 0 ∷ 0 ∷ 1 ∷ 0 ∷ 0 ∷ 0 ∷ 0 ∷ 0 ∷ 0 ∷ 0 ∷ 0 ∷ 0 ∷ 0 ∷ 0 ∷ 0 ∷ 0 ∷ 0 ∷ 0 ∷ 0 ∷ 0 ∷ 0 ∷ 0 ∷ 40 ∷ 0 ∷ 0 ∷
          0 ∷ 44 ∷ 0 ∷ 0 ∷ 0 ∷ 44 ∷ 0 ∷ 0 ∷ 0 ∷ 44 ∷ 0 ∷ 0 ∷ 0 ∷ 1 ∷ 0 ∷ 1 ∷ 0 ∷ [];
      room = 0;
      limit = 0;
      found =
          record {
            refusal = 4;
            log = [];
            counts = 0 ∷ 0 ∷ 0 ∷ 0 ∷ 0 ∷ 0 ∷ [];
            loss = 0;
            drained = Err 4;
          };
    }

-- C6: capacity 1 drops the second of two alike arrivals
C6-one : Row
C6-one =
    record {
      file =
          1 ∷ 0 ∷ 0 ∷ 0 ∷ 1 ∷ 0 ∷ 0 ∷ 0 ∷ 1 ∷ 0 ∷ 0 ∷ 0 ∷ 1 ∷ 0 ∷ 0 ∷ 0 ∷ 1 ∷ 0 ∷ 0 ∷ 0 ∷ 2 ∷ 0 ∷ 0 ∷ 0 ∷ 40 ∷ 0 ∷ 0 ∷
          0 ∷ 44 ∷ 0 ∷ 0 ∷ 0 ∷ 46 ∷ 0 ∷ 0 ∷ 0 ∷ 50 ∷ 0 ∷ 0 ∷ 0 ∷ 1 ∷ 0 ∷ 1 ∷ 0 ∷ 2 ∷ 0 ∷ 0 ∷ 0 ∷ 0 ∷ 0 ∷ [];
      room = 6;
      limit = 0;
      found =
          record {
            refusal = 0;
            log =
                0x10000000 ∷ 0x20000000 ∷ 0x30000000 ∷ 0x50000000 ∷ 9 ∷ 9 ∷ [];
            counts = 2 ∷ 1 ∷ 1 ∷ 1 ∷ 1 ∷ 0 ∷ [];
            loss = 500;
            drained = Ok (Empty 0);
          };
    }

-- C6: capacity 2 drops none
C6-two : Row
C6-two =
    record {
      file =
          1 ∷ 0 ∷ 0 ∷ 0 ∷ 1 ∷ 0 ∷ 0 ∷ 0 ∷ 1 ∷ 0 ∷ 0 ∷ 0 ∷ 1 ∷ 0 ∷ 0 ∷ 0 ∷ 1 ∷ 0 ∷ 0 ∷ 0 ∷ 2 ∷ 0 ∷ 0 ∷ 0 ∷ 40 ∷ 0 ∷ 0 ∷
          0 ∷ 44 ∷ 0 ∷ 0 ∷ 0 ∷ 46 ∷ 0 ∷ 0 ∷ 0 ∷ 50 ∷ 0 ∷ 0 ∷ 0 ∷ 2 ∷ 0 ∷ 2 ∷ 0 ∷ 2 ∷ 0 ∷ 0 ∷ 0 ∷ 0 ∷ 0 ∷ [];
      room = 6;
      limit = 1;
      found =
          record {
            refusal = 0;
            log =
                0x10000000 ∷ 0x10000000 ∷ 0x30000000 ∷ 0x50000000 ∷ 9 ∷ 9 ∷ [];
            counts = 2 ∷ 0 ∷ 1 ∷ 1 ∷ 1 ∷ 1 ∷ [];
            loss = 0;
            drained = Ok (Empty 1);
          };
    }

-- C7: greedy sends 1 and leaves three in output queue 0; draining takes 3
C7 : Row
C7 =
    record {
      file =
          1 ∷ 0 ∷ 0 ∷ 0 ∷ 1 ∷ 0 ∷ 0 ∷ 0 ∷ 4 ∷ 0 ∷ 0 ∷ 0 ∷ 4 ∷ 0 ∷ 0 ∷ 0 ∷ 1 ∷ 0 ∷ 0 ∷ 0 ∷ 7 ∷ 0 ∷ 0 ∷ 0 ∷ 40 ∷ 0 ∷ 0 ∷
          0 ∷ 80 ∷ 0 ∷ 0 ∷ 0 ∷ 82 ∷ 0 ∷ 0 ∷ 0 ∷ 96 ∷ 0 ∷ 0 ∷ 0 ∷ 4 ∷ 0 ∷ 4 ∷ 0 ∷ 4 ∷ 0 ∷ 4 ∷ 0 ∷ 4 ∷ 0 ∷ 4 ∷ 0 ∷ 4 ∷
          0 ∷ 4 ∷ 0 ∷ 4 ∷ 0 ∷ 4 ∷ 0 ∷ 4 ∷ 0 ∷ 4 ∷ 0 ∷ 4 ∷ 0 ∷ 4 ∷ 0 ∷ 4 ∷ 0 ∷ 4 ∷ 0 ∷ 4 ∷ 0 ∷ 4 ∷ 0 ∷ 4 ∷ 0 ∷ 4 ∷ 0 ∷
          7 ∷ 0 ∷ 0 ∷ 0 ∷ 0 ∷ 0 ∷ 0 ∷ 0 ∷ 0 ∷ 0 ∷ 0 ∷ 1 ∷ 0 ∷ 2 ∷ 0 ∷ 3 ∷ [];
      room = 21;
      limit = 4096;
      found =
          record {
            refusal = 0;
            log =
                0x10000000 ∷ 0x10000000 ∷ 0x10000000 ∷ 0x10000000 ∷ 0x10000001 ∷ 0x10000002 ∷ 0x10000003 ∷ 0x30000000 ∷
                0x30000100 ∷ 0x30000200 ∷ 0x30000300 ∷ 0x50000000 ∷ 9 ∷ 9 ∷ 9 ∷ 9 ∷ 9 ∷ 9 ∷ 9 ∷ 9 ∷ 9 ∷ [];
            counts = 7 ∷ 0 ∷ 4 ∷ 4 ∷ 1 ∷ 6 ∷ [];
            loss = 0;
            drained = Ok (Empty 3);
          };
    }

-- C8: through a crosspoint in one cycle; the output part sees the input part's moves
C8 : Row
C8 =
    record {
      file =
          2 ∷ 0 ∷ 0 ∷ 0 ∷ 1 ∷ 0 ∷ 0 ∷ 0 ∷ 1 ∷ 0 ∷ 0 ∷ 0 ∷ 1 ∷ 0 ∷ 0 ∷ 0 ∷ 1 ∷ 0 ∷ 0 ∷ 0 ∷ 1 ∷ 0 ∷ 0 ∷ 0 ∷ 40 ∷ 0 ∷ 0 ∷
          0 ∷ 46 ∷ 0 ∷ 0 ∷ 0 ∷ 48 ∷ 0 ∷ 0 ∷ 0 ∷ 50 ∷ 0 ∷ 0 ∷ 0 ∷ 1 ∷ 0 ∷ 1 ∷ 0 ∷ 1 ∷ 0 ∷ 1 ∷ 0 ∷ 0 ∷ 0 ∷ [];
      room = 4;
      limit = 0;
      found =
          record {
            refusal = 0;
            log =
                0x10000000 ∷ 0x30000000 ∷ 0x40000000 ∷ 0x50000000 ∷ [];
            counts = 1 ∷ 0 ∷ 1 ∷ 1 ∷ 1 ∷ 0 ∷ [];
            loss = 0;
            drained = Ok (Empty 0);
          };
    }

-- C9: rotating moves the packet of input 1 only
C9-rotating : Row
C9-rotating =
    record {
      file =
          1 ∷ 0 ∷ 0 ∷ 0 ∷ 2 ∷ 0 ∷ 0 ∷ 0 ∷ 2 ∷ 0 ∷ 0 ∷ 0 ∷ 1 ∷ 0 ∷ 0 ∷ 0 ∷ 2 ∷ 0 ∷ 0 ∷ 0 ∷ 2 ∷ 0 ∷ 0 ∷ 0 ∷ 40 ∷ 0 ∷ 0 ∷
          0 ∷ 52 ∷ 0 ∷ 0 ∷ 0 ∷ 56 ∷ 0 ∷ 0 ∷ 0 ∷ 60 ∷ 0 ∷ 0 ∷ 0 ∷ 1 ∷ 0 ∷ 1 ∷ 0 ∷ 1 ∷ 0 ∷ 1 ∷ 0 ∷ 1 ∷ 0 ∷ 1 ∷ 0 ∷ 0 ∷
          0 ∷ 2 ∷ 0 ∷ 0 ∷ 0 ∷ 1 ∷ 0 ∷ [];
      room = 6;
      limit = 1;
      found =
          record {
            refusal = 0;
            log =
                0x10010000 ∷ 0x10010010 ∷ 0x30010010 ∷ 0x50010000 ∷ 9 ∷ 9 ∷ [];
            counts = 2 ∷ 0 ∷ 1 ∷ 1 ∷ 1 ∷ 1 ∷ [];
            loss = 0;
            drained = Ok (Empty 1);
          };
    }

-- C9: lowest first moves that of input 0 only
C9-lowest : Row
C9-lowest =
    record {
      file =
          1 ∷ 0 ∷ 0 ∷ 0 ∷ 1 ∷ 0 ∷ 0 ∷ 0 ∷ 2 ∷ 0 ∷ 0 ∷ 0 ∷ 1 ∷ 0 ∷ 0 ∷ 0 ∷ 2 ∷ 0 ∷ 0 ∷ 0 ∷ 2 ∷ 0 ∷ 0 ∷ 0 ∷ 40 ∷ 0 ∷ 0 ∷
          0 ∷ 52 ∷ 0 ∷ 0 ∷ 0 ∷ 56 ∷ 0 ∷ 0 ∷ 0 ∷ 60 ∷ 0 ∷ 0 ∷ 0 ∷ 1 ∷ 0 ∷ 1 ∷ 0 ∷ 1 ∷ 0 ∷ 1 ∷ 0 ∷ 1 ∷ 0 ∷ 1 ∷ 0 ∷ 0 ∷
          0 ∷ 2 ∷ 0 ∷ 0 ∷ 0 ∷ 1 ∷ 0 ∷ [];
      room = 6;
      limit = 1;
      found =
          record {
            refusal = 0;
            log =
                0x10010000 ∷ 0x10010010 ∷ 0x30010000 ∷ 0x50010000 ∷ 9 ∷ 9 ∷ [];
            counts = 2 ∷ 0 ∷ 1 ∷ 1 ∷ 1 ∷ 1 ∷ [];
            loss = 0;
            drained = Ok (Empty 1);
          };
    }

-- house order means lowest first
house : Row
house =
    record {
      file =
          1 ∷ 0 ∷ 0 ∷ 0 ∷ 0 ∷ 0 ∷ 0 ∷ 0 ∷ 2 ∷ 0 ∷ 0 ∷ 0 ∷ 1 ∷ 0 ∷ 0 ∷ 0 ∷ 2 ∷ 0 ∷ 0 ∷ 0 ∷ 2 ∷ 0 ∷ 0 ∷ 0 ∷ 40 ∷ 0 ∷ 0 ∷
          0 ∷ 52 ∷ 0 ∷ 0 ∷ 0 ∷ 56 ∷ 0 ∷ 0 ∷ 0 ∷ 60 ∷ 0 ∷ 0 ∷ 0 ∷ 1 ∷ 0 ∷ 1 ∷ 0 ∷ 1 ∷ 0 ∷ 1 ∷ 0 ∷ 1 ∷ 0 ∷ 1 ∷ 0 ∷ 0 ∷
          0 ∷ 2 ∷ 0 ∷ 0 ∷ 0 ∷ 1 ∷ 0 ∷ [];
      room = 6;
      limit = 1;
      found =
          record {
            refusal = 0;
            log =
                0x10010000 ∷ 0x10010010 ∷ 0x30010000 ∷ 0x50010000 ∷ 9 ∷ 9 ∷ [];
            counts = 2 ∷ 0 ∷ 1 ∷ 1 ∷ 1 ∷ 1 ∷ [];
            loss = 0;
            drained = Ok (Empty 1);
          };
    }

-- C10: C1 with 14 words of log
C10 : Row
C10 =
    record {
      file =
          1 ∷ 0 ∷ 0 ∷ 0 ∷ 1 ∷ 0 ∷ 0 ∷ 0 ∷ 2 ∷ 0 ∷ 0 ∷ 0 ∷ 1 ∷ 0 ∷ 0 ∷ 0 ∷ 2 ∷ 0 ∷ 0 ∷ 0 ∷ 5 ∷ 0 ∷ 0 ∷ 0 ∷ 40 ∷ 0 ∷ 0 ∷
          0 ∷ 52 ∷ 0 ∷ 0 ∷ 0 ∷ 56 ∷ 0 ∷ 0 ∷ 0 ∷ 66 ∷ 0 ∷ 0 ∷ 0 ∷ 1 ∷ 0 ∷ 1 ∷ 0 ∷ 1 ∷ 0 ∷ 1 ∷ 0 ∷ 1 ∷ 0 ∷ 1 ∷ 0 ∷ 4 ∷
          0 ∷ 1 ∷ 0 ∷ 0 ∷ 0 ∷ 0 ∷ 0 ∷ 0 ∷ 1 ∷ 1 ∷ 0 ∷ 1 ∷ 1 ∷ [];
      room = 14;
      limit = 0;
      found =
          record {
            refusal = 12;
            log =
                9 ∷ 9 ∷ 9 ∷ 9 ∷ 9 ∷ 9 ∷ 9 ∷ 9 ∷ 9 ∷ 9 ∷ 9 ∷ 9 ∷ 9 ∷ 9 ∷ [];
            counts = 0 ∷ 0 ∷ 0 ∷ 0 ∷ 0 ∷ 0 ∷ [];
            loss = 0;
            drained = Err 12;
          };
    }

-- C11: one dropped of three
C11 : Row
C11 =
    record {
      file =
          1 ∷ 0 ∷ 0 ∷ 0 ∷ 1 ∷ 0 ∷ 0 ∷ 0 ∷ 1 ∷ 0 ∷ 0 ∷ 0 ∷ 1 ∷ 0 ∷ 0 ∷ 0 ∷ 1 ∷ 0 ∷ 0 ∷ 0 ∷ 3 ∷ 0 ∷ 0 ∷ 0 ∷ 40 ∷ 0 ∷ 0 ∷
          0 ∷ 44 ∷ 0 ∷ 0 ∷ 0 ∷ 46 ∷ 0 ∷ 0 ∷ 0 ∷ 52 ∷ 0 ∷ 0 ∷ 0 ∷ 2 ∷ 0 ∷ 2 ∷ 0 ∷ 3 ∷ 0 ∷ 0 ∷ 0 ∷ 0 ∷ 0 ∷ 0 ∷ 0 ∷ [];
      room = 9;
      limit = 1;
      found =
          record {
            refusal = 0;
            log =
                0x10000000 ∷ 0x10000000 ∷ 0x20000000 ∷ 0x30000000 ∷ 0x50000000 ∷ 9 ∷ 9 ∷ 9 ∷ 9 ∷ [];
            counts = 3 ∷ 1 ∷ 1 ∷ 1 ∷ 1 ∷ 1 ∷ [];
            loss = 333;
            drained = Ok (Empty 1);
          };
    }

-- C12: C1's end holds 1: drain limit 0
C12-none : Row
C12-none =
    record {
      file =
          1 ∷ 0 ∷ 0 ∷ 0 ∷ 1 ∷ 0 ∷ 0 ∷ 0 ∷ 2 ∷ 0 ∷ 0 ∷ 0 ∷ 1 ∷ 0 ∷ 0 ∷ 0 ∷ 2 ∷ 0 ∷ 0 ∷ 0 ∷ 5 ∷ 0 ∷ 0 ∷ 0 ∷ 40 ∷ 0 ∷ 0 ∷
          0 ∷ 52 ∷ 0 ∷ 0 ∷ 0 ∷ 56 ∷ 0 ∷ 0 ∷ 0 ∷ 66 ∷ 0 ∷ 0 ∷ 0 ∷ 1 ∷ 0 ∷ 1 ∷ 0 ∷ 1 ∷ 0 ∷ 1 ∷ 0 ∷ 1 ∷ 0 ∷ 1 ∷ 0 ∷ 4 ∷
          0 ∷ 1 ∷ 0 ∷ 0 ∷ 0 ∷ 0 ∷ 0 ∷ 0 ∷ 1 ∷ 1 ∷ 0 ∷ 1 ∷ 1 ∷ [];
      room = 15;
      limit = 0;
      found =
          record {
            refusal = 0;
            log =
                0x10000000 ∷ 0x20000000 ∷ 0x10000001 ∷ 0x10000010 ∷ 0x30000000 ∷ 0x50000000 ∷ 0x10010011 ∷ 0x30010001 ∷
                0x30010010 ∷ 0x50010000 ∷ 0x50010001 ∷ 9 ∷ 9 ∷ 9 ∷ 9 ∷ [];
            counts = 5 ∷ 1 ∷ 3 ∷ 3 ∷ 3 ∷ 1 ∷ [];
            loss = 200;
            drained = Ok (NotEmpty 0);
          };
    }

-- C12: limit 1
C12-one : Row
C12-one =
    record {
      file =
          1 ∷ 0 ∷ 0 ∷ 0 ∷ 1 ∷ 0 ∷ 0 ∷ 0 ∷ 2 ∷ 0 ∷ 0 ∷ 0 ∷ 1 ∷ 0 ∷ 0 ∷ 0 ∷ 2 ∷ 0 ∷ 0 ∷ 0 ∷ 5 ∷ 0 ∷ 0 ∷ 0 ∷ 40 ∷ 0 ∷ 0 ∷
          0 ∷ 52 ∷ 0 ∷ 0 ∷ 0 ∷ 56 ∷ 0 ∷ 0 ∷ 0 ∷ 66 ∷ 0 ∷ 0 ∷ 0 ∷ 1 ∷ 0 ∷ 1 ∷ 0 ∷ 1 ∷ 0 ∷ 1 ∷ 0 ∷ 1 ∷ 0 ∷ 1 ∷ 0 ∷ 4 ∷
          0 ∷ 1 ∷ 0 ∷ 0 ∷ 0 ∷ 0 ∷ 0 ∷ 0 ∷ 1 ∷ 1 ∷ 0 ∷ 1 ∷ 1 ∷ [];
      room = 15;
      limit = 1;
      found =
          record {
            refusal = 0;
            log =
                0x10000000 ∷ 0x20000000 ∷ 0x10000001 ∷ 0x10000010 ∷ 0x30000000 ∷ 0x50000000 ∷ 0x10010011 ∷ 0x30010001 ∷
                0x30010010 ∷ 0x50010000 ∷ 0x50010001 ∷ 9 ∷ 9 ∷ 9 ∷ 9 ∷ [];
            counts = 5 ∷ 1 ∷ 3 ∷ 3 ∷ 3 ∷ 1 ∷ [];
            loss = 200;
            drained = Ok (Empty 1);
          };
    }

-- an input whose lowest eligible output is taken takes a higher one that is free
gives_up : Row
gives_up =
    record {
      file =
          1 ∷ 0 ∷ 0 ∷ 0 ∷ 1 ∷ 0 ∷ 0 ∷ 0 ∷ 2 ∷ 0 ∷ 0 ∷ 0 ∷ 1 ∷ 0 ∷ 0 ∷ 0 ∷ 1 ∷ 0 ∷ 0 ∷ 0 ∷ 3 ∷ 0 ∷ 0 ∷ 0 ∷ 40 ∷ 0 ∷ 0 ∷
          0 ∷ 52 ∷ 0 ∷ 0 ∷ 0 ∷ 54 ∷ 0 ∷ 0 ∷ 0 ∷ 60 ∷ 0 ∷ 0 ∷ 0 ∷ 1 ∷ 0 ∷ 1 ∷ 0 ∷ 1 ∷ 0 ∷ 1 ∷ 0 ∷ 1 ∷ 0 ∷ 1 ∷ 0 ∷ 3 ∷
          0 ∷ 0 ∷ 0 ∷ 1 ∷ 0 ∷ 1 ∷ 1 ∷ [];
      room = 9;
      limit = 1;
      found =
          record {
            refusal = 0;
            log =
                0x10000000 ∷ 0x10000010 ∷ 0x10000011 ∷ 0x30000000 ∷ 0x30000011 ∷ 0x50000000 ∷ 0x50000001 ∷ 9 ∷ 9 ∷ [];
            counts = 3 ∷ 0 ∷ 2 ∷ 2 ∷ 2 ∷ 1 ∷ [];
            loss = 0;
            drained = Ok (Empty 1);
          };
    }

-- a full output queue has no room, though it will send later in the slot
full_output : Row
full_output =
    record {
      file =
          1 ∷ 0 ∷ 0 ∷ 0 ∷ 1 ∷ 0 ∷ 0 ∷ 0 ∷ 1 ∷ 0 ∷ 0 ∷ 0 ∷ 2 ∷ 0 ∷ 0 ∷ 0 ∷ 1 ∷ 0 ∷ 0 ∷ 0 ∷ 2 ∷ 0 ∷ 0 ∷ 0 ∷ 40 ∷ 0 ∷ 0 ∷
          0 ∷ 44 ∷ 0 ∷ 0 ∷ 0 ∷ 46 ∷ 0 ∷ 0 ∷ 0 ∷ 50 ∷ 0 ∷ 0 ∷ 0 ∷ 2 ∷ 0 ∷ 1 ∷ 0 ∷ 2 ∷ 0 ∷ 0 ∷ 0 ∷ 0 ∷ 0 ∷ [];
      room = 6;
      limit = 1;
      found =
          record {
            refusal = 0;
            log =
                0x10000000 ∷ 0x10000000 ∷ 0x30000000 ∷ 0x50000000 ∷ 9 ∷ 9 ∷ [];
            counts = 2 ∷ 0 ∷ 1 ∷ 1 ∷ 1 ∷ 1 ∷ [];
            loss = 0;
            drained = Ok (Empty 1);
          };
    }

-- rotation wraps round past N − 1
wraps : Row
wraps =
    record {
      file =
          1 ∷ 0 ∷ 0 ∷ 0 ∷ 2 ∷ 0 ∷ 0 ∷ 0 ∷ 2 ∷ 0 ∷ 0 ∷ 0 ∷ 1 ∷ 0 ∷ 0 ∷ 0 ∷ 2 ∷ 0 ∷ 0 ∷ 0 ∷ 2 ∷ 0 ∷ 0 ∷ 0 ∷ 40 ∷ 0 ∷ 0 ∷
          0 ∷ 52 ∷ 0 ∷ 0 ∷ 0 ∷ 56 ∷ 0 ∷ 0 ∷ 0 ∷ 60 ∷ 0 ∷ 0 ∷ 0 ∷ 1 ∷ 0 ∷ 1 ∷ 0 ∷ 1 ∷ 0 ∷ 1 ∷ 0 ∷ 1 ∷ 0 ∷ 1 ∷ 0 ∷ 0 ∷
          0 ∷ 2 ∷ 0 ∷ 0 ∷ 0 ∷ 1 ∷ 1 ∷ [];
      room = 6;
      limit = 0;
      found =
          record {
            refusal = 0;
            log =
                0x10010000 ∷ 0x10010011 ∷ 0x30010011 ∷ 0x30010000 ∷ 0x50010000 ∷ 0x50010001 ∷ [];
            counts = 2 ∷ 0 ∷ 2 ∷ 2 ∷ 2 ∷ 0 ∷ [];
            loss = 0;
            drained = Ok (Empty 0);
          };
    }

-- a crossbar's output takes the first input in turn
crossbar_turn : Row
crossbar_turn =
    record {
      file =
          2 ∷ 0 ∷ 0 ∷ 0 ∷ 2 ∷ 0 ∷ 0 ∷ 0 ∷ 2 ∷ 0 ∷ 0 ∷ 0 ∷ 1 ∷ 0 ∷ 0 ∷ 0 ∷ 2 ∷ 0 ∷ 0 ∷ 0 ∷ 2 ∷ 0 ∷ 0 ∷ 0 ∷ 40 ∷ 0 ∷ 0 ∷
          0 ∷ 60 ∷ 0 ∷ 0 ∷ 0 ∷ 64 ∷ 0 ∷ 0 ∷ 0 ∷ 68 ∷ 0 ∷ 0 ∷ 0 ∷ 1 ∷ 0 ∷ 1 ∷ 0 ∷ 1 ∷ 0 ∷ 1 ∷ 0 ∷ 1 ∷ 0 ∷ 1 ∷ 0 ∷ 1 ∷
          0 ∷ 1 ∷ 0 ∷ 1 ∷ 0 ∷ 1 ∷ 0 ∷ 0 ∷ 0 ∷ 2 ∷ 0 ∷ 0 ∷ 0 ∷ 1 ∷ 0 ∷ [];
      room = 8;
      limit = 1;
      found =
          record {
            refusal = 0;
            log =
                0x10010000 ∷ 0x10010010 ∷ 0x30010010 ∷ 0x30010000 ∷ 0x40010010 ∷ 0x50010000 ∷ 9 ∷ 9 ∷ [];
            counts = 2 ∷ 0 ∷ 2 ∷ 1 ∷ 1 ∷ 1 ∷ [];
            loss = 0;
            drained = Ok (Empty 1);
          };
    }

unfoldable pub table : List Row
unfolding C1 C2 C3 C4-passes C4-refused C5 C6-one C6-two C7 C8 C9-rotating C9-lowest house C10 C11 C12-none C12-one gives_up full_output wraps crossbar_turn
table =
    C1
    ∷ C2
    ∷ C3
    ∷ C4-passes
    ∷ C4-refused
    ∷ C5
    ∷ C6-one
    ∷ C6-two
    ∷ C7
    ∷ C8
    ∷ C9-rotating
    ∷ C9-lowest
    ∷ house
    ∷ C10
    ∷ C11
    ∷ C12-none
    ∷ C12-one
    ∷ gives_up
    ∷ full_output
    ∷ wraps
    ∷ crossbar_turn
    ∷ []
