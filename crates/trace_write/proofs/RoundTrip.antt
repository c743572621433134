-- Writing and reading undo one another.
-- What is written reads back: the file's parts stand one behind the other, so each table starts at its offset, and a number of k bytes
-- reads back as itself where it is below 256 ^ k. All are: the refusals that writing passed bound each of them.
-- What was read is written again: the digits of a number that was read are the bytes it was read from, so each part of the new file is
-- the part of the trace that stands at its offset, and the parts together are the trace, for its length is the total.
-- Assumes nothing.
use Prim.Native.Nat.{ℕ, ◌+◌, ◌*◌, ◌^◌, ◌≤◌, ◌<◌}
use native.Mathlib.Omega.{arith}
use mathlib.Core.Path.{◌≡◌, refl, sym, ap, ap₂, ◌∙◌}
use mathlib.Core.List.{List, [], ◌∷◌, ◌++◌}
use lib.ListN.{length, get_or, take, drop, length-drop, take-append-drop}
use lib.Seq.{take_all, take_at, drop_at, drop-drop, get_or-drop}
use Rattle.std.specs.Prelude.{Ok}
use Rattle.base.specs.Below.{list_below}
use Rattle.base.specs.Digits.{byte, spell}
use Rattle.base.specs.Refusal.{judged}
use Rattle.base.proofs.Digits.{length_spell}
use Rattle.base.proofs.Listed.{length_listed, listed_at, listed_is, listed_bytes}
use Rattle.base.proofs.Lists.{part_then_rest}
use Rattle.base.proofs.Spelled.{number_spell, spell_numbers}
use Rattle.layout.specs.declared.Header.{Header}
use Rattle.layout.specs.Header.{capacity_count, slot_counts_at, arrivals_at, total_of, places_of}
use Rattle.trace.specs.Reading.{half, word, header_of, capacity, slot_count, port_byte, reading}
use Rattle.trace.proofs.Accepting.{model_small, accepted_when, tables_passed}
use Rattle.layout.proofs.HeaderLaws.{allowed, places_small}
use Rattle.trace.proofs.ReadingLaws.{Right, right, whole}
use Rattle.layout.proofs.TablesLaws.{capacities_small, counts_small, tables_alike}
use Rattle.trace_write.specs.Writing.{lent_refusal, writing, header_words, file, out_of, written, written_out}
use Rattle.trace_write.specs.RoundTrip.{capacities_of, slot_counts_of, ports_of, ReadsBack, Rewritten}
use Rattle.trace_write.proofs.WritingLaws.{Lengths, Writable, writable, none_refused, length_header, length_file}

-- where the parts of a written file stand
module _ (h : Header) (caps counts ports : List ℕ) (l : Lengths h caps counts ports) where
  capacities_stand : drop 40 (file h caps counts ports) ≡ spell 2 caps ++ (spell 2 counts ++ ports)
  unfolding file
  capacities_stand = drop_at (spell 4 (header_words h)) (spell 2 caps ++ (spell 2 counts ++ ports)) 40 (length_header h caps counts ports)

  counts_stand : drop (slot_counts_at h) (file h caps counts ports) ≡ spell 2 counts ++ ports
  unfolding slot_counts_at
  counts_stand =
      sym (drop-drop (2 * capacity_count h) 40 (file h caps counts ports))
      ∙ ap (λ (r : List ℕ). drop (2 * capacity_count h) r) capacities_stand
      ∙ drop_at (spell 2 caps) (spell 2 counts ++ ports) (2 * capacity_count h) (omega (arith, length_spell 2 caps))

  ports_stand : drop (arrivals_at h) (file h caps counts ports) ≡ ports
  unfolding arrivals_at
  ports_stand =
      sym (drop-drop (2 * h.slots) (slot_counts_at h) (file h caps counts ports))
      ∙ ap (λ (r : List ℕ). drop (2 * h.slots) r) counts_stand
      ∙ drop_at (spell 2 counts) ports (2 * h.slots) (omega (arith, length_spell 2 counts))

-- what a written file reads as
module _ (h : Header) (caps counts ports : List ℕ) (room : ℕ) (w : Writable h caps counts ports room) where
  word_back : (i : ℕ) → i < 10 → get_or (header_words h) i 0 < 256 ^ 4 → word (file h caps counts ports) (0 + 4 * i) ≡ get_or (header_words h) i 0
  unfolding file header_words
  word_back i l small = number_spell 4 (header_words h) (file h caps counts ports) 0 (spell 2 caps ++ (spell 2 counts ++ ports)) refl i l small

  header_back : header_of (file h caps counts ports) ≡ h
  unfolding header_of header_words
  header_back =
      let a = allowed h w.header in
      let m = model_small h.model a.model in
      let model = word_back 0 (omega arith) (omega arith) in
      let order = word_back 1 (omega arith) (omega arith) in
      let ports = word_back 2 (omega arith) (omega arith) in
      let speedup = word_back 3 (omega arith) (omega arith) in
      let slots = word_back 4 (omega arith) (omega arith) in
      let arrivals = word_back 5 (omega arith) (omega arith) in
      λ i. record { model = model i; order = order i; ports = ports i; speedup = speedup i; slots = slots i; arrivals = arrivals i }

  places_back : Right (file h caps counts ports) (places_of h)
  unfolding places_of header_words
  places_back =
      let small = places_small h w.header in
      record {
        capacities = word_back 6 (omega arith) (omega arith);
        counts = word_back 7 (omega arith) (omega arith);
        arrivals = word_back 8 (omega arith) (omega arith);
        total = word_back 9 (omega arith) (omega arith);
        length = length_file h caps counts ports w.long;
      }

  capacity_back : (k : ℕ) → k < capacity_count h → capacity (file h caps counts ports) k ≡ get_or caps k 0
  unfolding capacity lent_refusal
  capacity_back k l =
      let small = capacities_small h (λ k. get_or caps k 0) (λ t. get_or counts t 0) (λ b. get_or ports b 0) w.lent k l in
      ap (λ (p : ℕ). half (file h caps counts ports) (p + 2 * k)) places_back.capacities
      ∙ number_spell 2 caps (file h caps counts ports) 40 (spell 2 counts ++ ports) (capacities_stand h caps counts ports w.long) k (omega (arith, w.long.of_caps)) (omega arith)

  slot_count_back : (t : ℕ) → t < h.slots → slot_count (file h caps counts ports) t ≡ get_or counts t 0
  unfolding slot_count lent_refusal places_of
  slot_count_back t l =
      let small = counts_small h (λ k. get_or caps k 0) (λ t. get_or counts t 0) (λ b. get_or ports b 0) w.lent w.header t l in
      ap (λ (p : ℕ). half (file h caps counts ports) (p + 2 * t)) places_back.counts
      ∙ number_spell 2 counts (file h caps counts ports) (slot_counts_at h) ports (counts_stand h caps counts ports w.long) t (omega (arith, w.long.of_counts)) (omega arith)

  port_back : (b : ℕ) → port_byte (file h caps counts ports) b ≡ get_or ports b 0
  unfolding port_byte places_of
  port_back b =
      ap (λ (p : ℕ). byte (file h caps counts ports) (p + b)) places_back.arrivals
      ∙ sym (get_or-drop (arrivals_at h) (file h caps counts ports) b 0)
      ∙ ap (λ (r : List ℕ). get_or r b 0) (ports_stand h caps counts ports w.long)

  all_back : ReadsBack h caps counts ports
  unfolding capacities_of slot_counts_of ports_of lent_refusal
  all_back =
      let f : List ℕ = file h caps counts ports in
      record {
        accepted =
            accepted_when f h header_back w.header places_back
            (tables_alike h (capacity f) (λ k. get_or caps k 0) (slot_count f) (λ t. get_or counts t 0) (port_byte f) (λ b. get_or ports b 0) capacity_back slot_count_back (λ b l. port_back b)
            ∙ w.lent);
        header = header_back;
        capacities =
            ap (λ (g : Header). list_below (capacity f) (capacity_count g)) header_back
            ∙ listed_is (capacity f) (capacity_count h) caps w.long.of_caps capacity_back;
        slot_counts =
            ap (λ (g : Header). list_below (slot_count f) g.slots) header_back
            ∙ listed_is (slot_count f) h.slots counts w.long.of_counts slot_count_back;
        port_bytes =
            ap (λ (g : Header). list_below (port_byte f) (2 * g.arrivals)) header_back
            ∙ listed_is (port_byte f) (2 * h.arrivals) ports w.long.of_ports (λ b l. port_back b);
      }

-- what is written reads back as the same values
pub reads_back : (h : Header) (caps counts ports : List ℕ) (room : ℕ) → writing h caps counts ports room ≡ 0 → ReadsBack h caps counts ports
reads_back h caps counts ports room e = all_back h caps counts ports room (writable h caps counts ports room e)

-- the parts of the file that is written from what was read
module _ (s : List ℕ) (small : (k : ℕ) → get_or s k 0 < 256) (e : reading s ≡ 0) where
  placed : Right s (places_of (header_of s))
  placed = right s (places_of (header_of s)) (whole s e).places

  words_again : header_words (header_of s) ≡ list_below (λ i. word s (0 + 4 * i)) 10
  unfolding header_words header_of list_below places_of
  words_again =
      let capacities-at = sym placed.capacities in
      let counts-at = sym placed.counts in
      let arrivals-at = sym placed.arrivals in
      let total-at = sym placed.total in
      λ i.
      word s 0
      ∷ (word s 4
      ∷ (word s 8
      ∷ (word s 12 ∷ (word s 16 ∷ (word s 20 ∷ (capacities-at i ∷ (counts-at i ∷ (arrivals-at i ∷ (total-at i ∷ [])))))))))

  header_again : spell 4 (header_words (header_of s)) ≡ take 40 s
  header_again = ap (λ (ws : List ℕ). spell 4 ws) words_again ∙ spell_numbers 4 s 0 10 small (whole s e).long

  capacities_again : spell 2 (capacities_of s) ≡ take (2 * capacity_count (header_of s)) (drop 40 s)
  unfolding capacities_of capacity places_of total_of arrivals_at slot_counts_at
  capacities_again =
      ap (λ (p : ℕ). spell 2 (list_below (λ k. half s (p + 2 * k)) (capacity_count (header_of s)))) placed.capacities
      ∙ spell_numbers 2 s 40 (capacity_count (header_of s)) small (omega (arith, placed.length))

  counts_again : spell 2 (slot_counts_of s) ≡ take (2 * (header_of s).slots) (drop (slot_counts_at (header_of s)) s)
  unfolding slot_counts_of slot_count places_of total_of arrivals_at
  counts_again =
      ap (λ (p : ℕ). spell 2 (list_below (λ t. half s (p + 2 * t)) (header_of s).slots)) placed.counts
      ∙ spell_numbers 2 s (slot_counts_at (header_of s)) (header_of s).slots small (omega (arith, placed.length))

  ports_again : ports_of s ≡ drop (arrivals_at (header_of s)) s
  unfolding ports_of port_byte places_of total_of
  ports_again =
      let rest = length-drop (arrivals_at (header_of s)) s in
      ap (λ (p : ℕ). list_below (λ b. byte s (p + b)) (2 * (header_of s).arrivals)) placed.arrivals
      ∙ listed_bytes s (arrivals_at (header_of s)) (2 * (header_of s).arrivals) (omega (arith, placed.length))
      ∙ take_all (2 * (header_of s).arrivals) (drop (arrivals_at (header_of s)) s) (omega (arith, placed.length))

  same_bytes : file (header_of s) (capacities_of s) (slot_counts_of s) (ports_of s) ≡ s
  unfolding file arrivals_at slot_counts_at
  same_bytes =
      (λ i. header_again i ++ (capacities_again i ++ (counts_again i ++ ports_again i)))
      ∙ ap (λ (r : List ℕ). take 40 s ++ (take (2 * capacity_count (header_of s)) (drop 40 s) ++ r)) (part_then_rest s (slot_counts_at (header_of s)) (2 * (header_of s).slots))
      ∙ ap (λ (r : List ℕ). take 40 s ++ r) (part_then_rest s 40 (2 * capacity_count (header_of s)))
      ∙ take-append-drop 40 s

  writable_again : (room : ℕ) → length s ≤ room → Writable (header_of s) (capacities_of s) (slot_counts_of s) (ports_of s) room
  unfolding capacities_of slot_counts_of ports_of lent_refusal places_of
  writable_again room l =
      let caps : ℕ = capacity_count (header_of s) in
      let slots : ℕ = (header_of s).slots in
      let bytes : ℕ = 2 * (header_of s).arrivals in
      record {
        header = (whole s e).header;
        long =
            record {
              of_caps = length_listed (capacity s) caps;
              of_counts = length_listed (slot_count s) slots;
              of_ports = length_listed (port_byte s) bytes;
            };
        lent =
            tables_alike (header_of s) (λ k. get_or (capacities_of s) k 0) (capacity s) (λ t. get_or (slot_counts_of s) t 0) (slot_count s) (λ b. get_or (ports_of s) b 0) (port_byte s)
            (listed_at (capacity s) caps) (listed_at (slot_count s) slots) (listed_at (port_byte s) bytes)
            ∙ tables_passed s e;
        fits = omega (arith, placed.length);
      }

-- an accepted trace, written again from what was read, is the same bytes
pub rewritten : (s : List ℕ) → ((k : ℕ) → get_or s k 0 < 256) → reading s ≡ 0 → (room : ℕ) → length s ≤ room → Rewritten s room
rewritten s small e room l =
    record {
      accepted = none_refused (header_of s) (capacities_of s) (slot_counts_of s) (ports_of s) room (writable_again s small e room l);
      same = same_bytes s small e;
    }

-- the same of the writer's answer and of the output that it leaves: an output with room for the trace starts with it, and the bytes
-- beyond are as they were
pub rewritten_out : (s : List ℕ) → ((k : ℕ) → get_or s k 0 < 256) → reading s ≡ 0 → (out : List ℕ) → length s ≤ length out → (written (header_of s) (capacities_of s) (slot_counts_of s) (ports_of s) out ≡ Ok (length s)) × (written_out (header_of s) (capacities_of s) (slot_counts_of s) (ports_of s) out ≡ s ++ drop (length s) out)
unfolding written written_out judged out_of places_of
rewritten_out s small e out l =
    let r = rewritten s small e (length out) l in
    let total : total_of (header_of s) ≡ length s = sym (placed s small e).length in
    (ap (λ (n : ℕ). judged n (total_of (header_of s))) r.accepted ∙ ap Ok total, ap₂ (λ (n : ℕ) (f : List ℕ). out_of n f out) r.accepted r.same)

-- and of what an accepted writing leaves: the first bytes, as many as the total, are the file, which reads back
pub written_reads_back : (h : Header) (caps counts ports out : List ℕ) → writing h caps counts ports (length out) ≡ 0 → (take (total_of h) (written_out h caps counts ports out) ≡ file h caps counts ports) × ReadsBack h caps counts ports
unfolding written_out out_of
written_reads_back h caps counts ports out e =
    let w = writable h caps counts ports (length out) e in
    let f : List ℕ = file h caps counts ports in (
      ap (λ (n : ℕ). take (total_of h) (out_of n f out)) e ∙ take_at f (drop (length f) out) (total_of h) (length_file h caps counts ports w.long),
      reads_back h caps counts ports (length out) e,
    )
