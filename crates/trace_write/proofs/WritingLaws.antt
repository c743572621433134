-- The parts of a written file one after the other, how long it is, and the ways out of the writer's chain of refusals.
-- Assumes nothing.
use Prim.Native.Nat.{ℕ, zero, suc, ◌+◌, ◌-◌, ◌*◌, ◌≤◌, ◌<◌}
use native.Mathlib.Numerals.{add-one}
use native.Mathlib.Nat.{mul-suc}
use native.Mathlib.Omega.{arith}
use mathlib.Core.Path.{◌≡◌, refl, sym, ap, ap₂, ◌∙◌}
use mathlib.Core.List.{List, [], ◌∷◌, ◌++◌, append_assoc, append-nil, map}
use mathlib.Core.Bool.{Bool, true, and-eq-true_iff}
use lib.ListN.{length, take, drop, get_or, length-append}
use lib.Seq.{take_at, drop_at, drop-drop, take-suc, length-take-le}
use borrow.Rule.Slice.PartMut.{put_mid}
use borrow.Author.Tests.{eqb-true, leb-true, eq-eqb, le-leb}
use Rattle.std.proofs.lemmas.List.{map-id, length-map, get_or-map}
use Rattle.base.specs.Digits.{digits, spell}
use Rattle.std.specs.Prelude.{Result, Ok, Err}
use Rattle.base.specs.declared.Refusal.{Refusal}
use Rattle.base.specs.Refusal.{unless, judged, refusal_of}
use Rattle.base.proofs.Below.{both_true}
use Rattle.base.proofs.Digits.{length_digits, length_spell, spell_append}
use Rattle.base.proofs.RefusalLaws.{unless_zero, chain_zero, goes_on, passed, refuses, refused, clear, unless_small, chain_small, number_of_judged}
use Rattle.layout.specs.declared.Header.{Header}
use Rattle.layout.specs.declared.Places.{Places}
use Rattle.layout.specs.declared.file.File.{File}
use Rattle.layout.specs.Header.{header_refusal, capacity_count, slot_counts_at, arrivals_at, total_of, places_of, laid_out}
use Rattle.layout.specs.Tables.{tables_refusal}
use Rattle.layout.proofs.HeaderLaws.{places_small}
use Rattle.trace_write.specs.Writing.{lengths_right, lent_refusal, body_refusal, writing, header_words, file, out_of, written, written_out}

-- what a file's places are
pub capacities_counted : (f : File) → f.places.capacities ≡ capacity_count f.header
unfolding places_of
capacities_counted f = ap (λ (p : Places). p.capacities) f.placed

pub places_fit : (f : File) → (f.places.counts ≤ 1096) × (f.places.arrivals ≤ 9288) × (f.places.total ≤ 17480)
unfolding places_of
places_fit f = let small = places_small f.header f.allowed in rw f.placed small

pub words_placed : (f : File) → (f.header.model ∷ f.header.order ∷ f.header.ports ∷ f.header.speedup ∷ f.header.slots ∷ f.header.arrivals ∷ 40 ∷ f.places.counts ∷ f.places.arrivals ∷ f.places.total ∷ []) ≡ header_words f.header
unfolding header_words places_of
words_placed f =
    let h = f.header in
    ap (λ (p : Places). h.model ∷ h.order ∷ h.ports ∷ h.speedup ∷ h.slots ∷ h.arrivals ∷ 40 ∷ p.counts ∷ p.arrivals ∷ p.total ∷ []) f.placed

-- each table is as long as the header makes it
pub record Lengths (h : Header) (caps counts ports : List ℕ) : Type 0 where
  pub of_caps : length caps ≡ capacity_count h
  pub of_counts : length counts ≡ h.slots
  pub of_ports : length ports ≡ 2 * h.arrivals

pub lengths : (h : Header) (caps counts ports : List ℕ) → lengths_right h caps counts ports ≡ true → Lengths h caps counts ports
unfolding lengths_right
lengths h caps counts ports e =
    let a = both_true _ _ e in
    let b = both_true _ _ a.1 in
    record { of_caps = eqb-true _ _ a.0; of_counts = eqb-true _ _ b.0; of_ports = eqb-true _ _ b.1 }

-- what nothing refused is known to have
pub record Writable (h : Header) (caps counts ports : List ℕ) (room : ℕ) : Type 0 where
  pub header : header_refusal h ≡ 0
  pub long : Lengths h caps counts ports
  pub lent : lent_refusal h caps counts ports ≡ 0
  pub fits : total_of h ≤ room

-- where the parts lie, each as long as its table, within an output that has room for the total
pub record Fillable (p : Places) (caps counts ports out : List ℕ) : Type 0 where
  pub of_caps : 40 + 2 * length caps ≡ p.counts
  pub of_counts : p.counts + 2 * length counts ≡ p.arrivals
  pub of_ports : p.arrivals + length ports ≡ p.total
  pub of_room : p.total ≤ length out

module _ (h : Header) (caps counts ports : List ℕ) where
  pub writable : (room : ℕ) → writing h caps counts ports room ≡ 0 → Writable h caps counts ports room
  unfolding writing body_refusal
  writable room e =
      let two = chain_zero _ _ e in
      let seventeen = chain_zero _ _ two.1 in
      let nine = chain_zero _ _ seventeen.1 in
      record {
        header = two.0;
        long = lengths h caps counts ports (unless_zero _ 16 seventeen.0);
        lent = nine.0;
        fits = leb-true _ _ (unless_zero _ 17 nine.1);
      }

  -- the other way round
  pub none_refused : (room : ℕ) → Writable h caps counts ports room → writing h caps counts ports room ≡ 0
  unfolding writing body_refusal lengths_right unless
  none_refused room w =
      let long = w.long in
      let right =
      (and-eq-true_iff _ _).1 (
        eq-eqb (length caps) (capacity_count h) long.of_caps,
        (and-eq-true_iff _ _).1
            (eq-eqb (length counts) h.slots long.of_counts, eq-eqb (length ports) (2 * h.arrivals) long.of_ports),
      ) in
      goes_on _ _ w.header
      ∙ passed _ 17 _ right
      ∙ goes_on _ _ w.lent
      ∙ ap (λ (b : Bool). unless b 18) (le-leb (total_of h) room w.fits)

  pub length_header : length (spell 4 (header_words h)) ≡ 40
  unfolding header_words
  length_header = length_spell 4 (header_words h)

  module _ (l : Lengths h caps counts ports) where
    pub length_file : length (file h caps counts ports) ≡ total_of h
    unfolding file total_of arrivals_at slot_counts_at
    length_file =
        let a = length-append (spell 4 (header_words h)) (spell 2 caps ++ (spell 2 counts ++ ports)) in
        let b = length-append (spell 2 caps) (spell 2 counts ++ ports) in
        let c = length-append (spell 2 counts) ports in
        omega (arith, length_header, length_spell 2 caps, length_spell 2 counts)

  -- the answer, and what is left behind: where the header refuses, where the rest does, and where nothing does
  module _ (out : List ℕ) where
    pub header_refused : (e : Refusal) → Err e ≡ laid_out h → Err e ≡ written h caps counts ports out
    unfolding laid_out written writing
    header_refused e r = refuses _ _ _ _ _ r

    pub body_refused : (e : Refusal) → header_refusal h ≡ 0 → Err e ≡ judged (body_refusal h caps counts ports (length out)) (tt {0}) → Err e ≡ written h caps counts ports out
    unfolding written writing
    body_refused e z r = refused _ _ _ _ r ∙ ap (λ (n : ℕ). judged n (total_of h)) (sym (goes_on _ _ z))

    pub kept : (e : Refusal) → Err e ≡ written h caps counts ports out → out ≡ written_out h caps counts ports out
    unfolding written written_out
    kept e = go (writing h caps counts ports (length out))
      where
        go : (n : ℕ) → Err e ≡ judged n (total_of h) → out ≡ out_of n (file h caps counts ports) out
        go zero r = unfold judged in let w : ◌≡◌ {A = Result ℕ Refusal} (Err e) (Ok (total_of h)) = r in cc
        go (suc n) r = unfold out_of in refl

    module _ (z : header_refusal h ≡ 0) (u : Unit {0}) (r : Ok u ≡ judged (body_refusal h caps counts ports (length out)) (tt {0})) where
      nothing_refused : writing h caps counts ports (length out) ≡ 0
      unfolding writing
      nothing_refused = goes_on _ _ z ∙ (clear _ _ _ r).0

      pub fillable : (p : Places) → p ≡ places_of h → Fillable p caps counts ports out
      unfolding places_of total_of arrivals_at slot_counts_at
      fillable p e =
          let w = writable (length out) nothing_refused in
          let counts-at = ap (λ (q : Places). q.counts) e in
          let arrivals-at = ap (λ (q : Places). q.arrivals) e in
          let total = ap (λ (q : Places). q.total) e in
          record {
            of_caps = omega (arith, w.long.of_caps);
            of_counts = omega (arith, w.long.of_counts);
            of_ports = omega (arith, w.long.of_ports);
            of_room = omega (arith, w.fits);
          }

      pub total_answered : Ok (total_of h) ≡ written h caps counts ports out
      unfolding written judged
      total_answered = rw nothing_refused refl

      pub filled : out_of 0 (file h caps counts ports) out ≡ written_out h caps counts ports out
      unfolding written_out
      filled = rw nothing_refused refl

-- what is put behind what stands already, as far as n
pub put_next : (front out ys : List ℕ) (a k n : ℕ) → length front ≡ a → length ys ≡ k → a + k ≡ n → put_mid a k (front ++ drop a out) ys ≡ (front ++ ys) ++ drop n out
put_next front out ys a k n ef ey en =
    ap₂ (λ (l r : List ℕ). l ++ (ys ++ drop k r)) (take_at front (drop a out) a ef) (drop_at front (drop a out) a ef)
    ∙ ap (λ (r : List ℕ). front ++ (ys ++ r)) (drop-drop k a out ∙ ap (λ (m : ℕ). drop m out) en)
    ∙ sym (append_assoc front ys (drop n out))

-- the four parts, each put behind those before it
pub parts_put : (h : Header) (p : Places) (caps counts ports out words a b c d : List ℕ)
    → 40 + 2 * length caps ≡ p.counts → p.counts + 2 * length counts ≡ p.arrivals → p.arrivals + length ports ≡ p.total
    → words ≡ header_words h → a ≡ spell 4 (map (λ v. v) words) → b ≡ spell 2 (map (λ v. v) caps) → c ≡ spell 2 (map (λ v. v) counts) → d ≡ ports
    → put_mid p.arrivals (p.total - p.arrivals) (put_mid p.counts (p.arrivals - p.counts) (put_mid 40 (p.counts - 40) (a ++ drop 40 out) b) c) d ≡ out_of 0 (file h caps counts ports) out
unfolding out_of file
parts_put h p caps counts ports out words a b c d ex ey ez ew ea eb ec ed =
    let A : List ℕ = spell 4 (header_words h) in
    let B : List ℕ = spell 2 caps in
    let C : List ℕ = spell 2 counts in
    let long-a : length A ≡ 40 = length_header h caps counts ports in
    let long-b : length B ≡ 2 * length caps = length_spell 2 caps in
    let long-c : length C ≡ 2 * length counts = length_spell 2 counts in
    let long-ab : length (A ++ B) ≡ p.counts = omega (arith, length-append A B) in
    let long-abc : length ((A ++ B) ++ C) ≡ p.arrivals = omega (arith, length-append (A ++ B) C) in
    let long : length (A ++ (B ++ (C ++ ports))) ≡ p.total = omega (arith, length-append A (B ++ (C ++ ports)), length-append B (C ++ ports), length-append C ports) in
    let first = put_next A out B 40 (p.counts - 40) p.counts long-a (omega arith) (omega arith) in
    let second = put_next (A ++ B) out C p.counts (p.arrivals - p.counts) p.arrivals long-ab (omega arith) (omega arith) in
    let third = put_next ((A ++ B) ++ C) out ports p.arrivals (p.total - p.arrivals) p.total long-abc (omega arith) (omega arith) in
    rw (ea, eb, ec, ed, map-id words, map-id caps, map-id counts, ew, first, second, third)
    (ap₂ (λ (l : List ℕ) (n : ℕ). l ++ drop n out) (append_assoc (A ++ B) C ports ∙ append_assoc A B (C ++ ports)) (sym long))

spell_more : (w : ℕ) (vs : List ℕ) (k : ℕ) → k < length vs → spell w (take (k + 1) vs) ≡ spell w (take k vs) ++ digits w (get_or vs k 0)
unfolding spell
spell_more w vs k h = rw (add-one, take-suc vs k 0 h, spell_append, append-nil)

-- what a table's numbers so far leave, one number more. Its numbers are of a type of their own
pub table_step : {T : Type 0} (value : T → ℕ) (w : ℕ) (out before written : List ℕ) (numbers : List T) (k n : ℕ) (v : T)
    → k < length numbers → n ≡ w → v ≡ get_or numbers k v → written ≡ digits w (value v) → before ≡ spell w (take k (map value numbers)) ++ drop (w * k) out
    → put_mid (w * k) n before written ≡ spell w (take (k + 1) (map value numbers)) ++ drop (w * (k + 1)) out
table_step value w out before written numbers k n v less same is dg eb =
    let long : k < length (map value numbers) = omega (arith, length-map numbers value) in
    let here : get_or (map value numbers) k 0 ≡ value v = get_or-map value numbers k v 0 less ∙ ap value (sym is) in
    let so_far : length (spell w (take k (map value numbers))) ≡ w * k = length_spell w (take k (map value numbers)) ∙ ap (λ (m : ℕ). w * m) (length-take-le k (map value numbers) (omega arith)) in
    rw (eb, same, dg)
    (put_next (spell w (take k (map value numbers))) out (digits w (value v)) (w * k) w (w * (k + 1)) so_far (length_digits w (value v)) (omega (arith, mul-suc w k))
    ∙ ap (λ (l : List ℕ). l ++ drop (w * (k + 1)) out)
    (ap (λ (m : ℕ). spell w (take k (map value numbers)) ++ digits w m) (sym here) ∙ sym (spell_more w (map value numbers) k long)))

-- the writer's refusals are those of the paper's table up to 18, so the answer's number is the first refusal's
pub writing_small : (h : Header) (caps counts ports : List ℕ) (room : ℕ) → writing h caps counts ports room ≤ 18
unfolding writing header_refusal body_refusal lent_refusal tables_refusal
writing_small h caps counts ports room =
    let test = λ (b : Bool) (n : ℕ) (l : n ≤ 18). unless_small b n 18 l in
    let chain = λ (a b : ℕ) (l : a ≤ 18) (m : b ≤ 18). chain_small a b 18 l m in
    search (arith, test, chain)

pub refusal_of_written : (h : Header) (caps counts ports out : List ℕ) → refusal_of (written h caps counts ports out) ≡ writing h caps counts ports (length out)
unfolding written
refusal_of_written h caps counts ports out = number_of_judged _ (total_of h) (writing_small h caps counts ports (length out))
