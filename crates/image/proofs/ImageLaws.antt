-- The image of a switch as the code makes it, and the three laws that callers need of it. A switch whose lists have their lengths has an image of 1,066 words; the switch of
-- that image is the same switch, so nothing is lost; and where 1,066 words are lent, storing the image leaves the image and nothing else.
-- Assumes nothing.
use Prim.Native.Nat.{ℕ, suc, ◌+◌, ◌-◌, min, ◌≤◌, ◌<◌}
use native.Mathlib.Nat.{zero-add, add_assoc}
use native.Mathlib.Omega.{arith}
use mathlib.Core.Path.{◌≡◌, refl, sym, ap, ◌∙◌, fun_ext}
use mathlib.Core.Logic.{⊎_elim}
use mathlib.Core.List.{List, [], ◌∷◌, ◌++◌, append_assoc, append-nil}
use lib.ListN.{length, get_or, take, drop, length-append, drop_of_length-le, get_or-append}
use lib.Seq.{sets, sets-eq, length-sets, set_out, drop-drop, length-take-le, get_or-append-add}
use borrow.Rule.Slice.PartMut.{put_mid}
use Rattle.std.proofs.lemmas.List.{take-append-drop, drop_all}
use Rattle.base.proofs.Order.{le_or_lt}
use Rattle.base.specs.Below.{list_below}
use Rattle.base.proofs.Listed.{listed_is}
use Rattle.base.proofs.Sets.{sets_then, sets_start}
use Rattle.queues.specs.declared.Queues.{Queues}
use Rattle.slot_laws.proofs.Balance.{Sized}
use Rattle.switch.specs.declared.Switch.{Switch}
use Rattle.image.specs.Image.{words, queues_of, switch_of, numbers_of, queue_words, image_of}

-- what was read, put together
pub queues_read : (ws a b x i o y : List ℕ) → a ≡ words ws 10 256 → b ≡ words ws 266 16 → x ≡ words ws 282 256 → i ≡ words ws 538 256 → o ≡ words ws 794 16 → y ≡ words ws 810 256
    → record { incap = a; outcap = b; crosscap = x; inlen = i; outlen = o; crosslen = y } ≡ queues_of ws
unfolding queues_of
queues_read ws a b x i o y ea eb ex ei eo ey = rw (ea, eb, ex, ei, eo, ey)

pub switch_read : (ws : List ℕ) (m o p v t a d x u n : ℕ) (q : Queues) → m ≡ get_or ws 0 0 → o ≡ get_or ws 1 0 → p ≡ get_or ws 2 0 → v ≡ get_or ws 3 0 → t ≡ get_or ws 4 0
    → a ≡ get_or ws 5 0 → d ≡ get_or ws 6 0 → x ≡ get_or ws 7 0 → u ≡ get_or ws 8 0 → n ≡ get_or ws 9 0 → q ≡ queues_of ws
    → record { model = m; order = o; ports = p; speedup = v; slot = t; arrived = a; dropped = d; crossed = x; outmoved = u; sent = n; queues = q } ≡ switch_of ws
unfolding switch_of
switch_read ws m o p v t a d x u n q em eo ep ev et ea ed ex eu en eq = rw (em, eo, ep, ev, et, ea, ed, ex, eu, en, eq)

-- past the end no words are stored
pub sets_past : (l : List ℕ) (at : ℕ) (ws : List ℕ) → length l ≤ at → l ≡ sets l at ws
sets_past l at [] h = refl
sets_past l at (w ∷ ws) h = rw (set_out l at w h) (sets_past l (suc at) ws (omega arith))

-- words of which as many are copied as there is room for
pub copied : (l : List ℕ) (at : ℕ) (ws : List ℕ) (n k : ℕ) (part : List ℕ) → at < length l → n ≡ min (length ws) (length l - at) → k ≡ n → part ≡ take n ws
    → put_mid at k l part ≡ sets l at ws
copied l at ws n k part inside e same_number same_part =
    let first = take n ws in
    let long : length first ≡ n = length-take-le n ws (omega arith) in
    let fits : at + length first ≤ length l = omega arith in
    let stored : put_mid at n l first ≡ sets l at first =
    ap (λ (m : List ℕ). take at l ++ (first ++ m)) (drop-drop n at l ∙ ap (λ (m : ℕ). drop (at + m) l) (sym long))
    ∙ sym (sets-eq first l at fits ∙ append_assoc (take at l) first _)
    in
    let rest : sets l at first ≡ sets (sets l at first) (at + n) (drop n ws) =
    ⊎_elim
    (λ (h : length ws ≤ n). ap (sets (sets l at first) (at + n)) (sym (drop_all n ws h)))
    (λ (h : n < length ws). sets_past (sets l at first) (at + n) (drop n ws) (omega (arith, length-sets l at first)))
    (le_or_lt (length ws) n)
    in
    let all : sets (sets l at first) (at + n) (drop n ws) ≡ sets l at ws =
    ap (λ (m : ℕ). sets (sets l at first) (at + m) (drop n ws)) (sym long) ∙ sym (sets_then l at first (drop n ws)) ∙ ap (sets l at) (take-append-drop n ws)
    in
    rw (same_number, same_part) (stored ∙ rest ∙ all)

-- three lists that are stored one after the other
pub three_stored : (l l₁ l₂ l₃ : List ℕ) (at : ℕ) (a b x : List ℕ) → l₁ ≡ sets l at a → l₂ ≡ sets l₁ (at + 256) b → l₃ ≡ sets l₂ (at + 272) x → length a ≡ 256 → length b ≡ 16
    → l₃ ≡ sets l at (a ++ (b ++ x))
three_stored l l₁ l₂ l₃ at a b x e₁ e₂ e₃ ea eb =
    e₃
    ∙ ap (λ (m : List ℕ). sets m (at + 272) x) (e₂ ∙ ap (λ (m : List ℕ). sets m (at + 256) b) e₁)
    ∙ sym
    (sets_then l at a (b ++ x)
    ∙ ap (λ (n : ℕ). sets (sets l at a) (at + n) (b ++ x)) ea
    ∙ sets_then (sets l at a) (at + 256) b x
    ∙ ap (λ (n : ℕ). sets (sets (sets l at a) (at + 256) b) n x) (ap (λ (n : ℕ). at + 256 + n) eb ∙ add_assoc at 256 16))

-- two times three, from the eleventh word on
pub queues_stored : (l l₁ l₂ : List ℕ) (q : Queues) → l₁ ≡ sets l 10 (q.incap ++ (q.outcap ++ q.crosscap)) → l₂ ≡ sets l₁ 538 (q.inlen ++ (q.outlen ++ q.crosslen))
    → length q.incap ≡ 256 → length q.outcap ≡ 16 → length q.crosscap ≡ 256 → l₂ ≡ sets l 10 (queue_words q)
unfolding queue_words
queues_stored l l₁ l₂ q e₁ e₂ a b x =
    let first = q.incap ++ (q.outcap ++ q.crosscap) in
    let second = q.inlen ++ (q.outlen ++ q.crosslen) in
    let n : length first ≡ 528 = length-append q.incap (q.outcap ++ q.crosscap) ∙ ap (λ (m : ℕ). length q.incap + m) (length-append q.outcap q.crosscap) ∙ rw (a, b, x) in
    e₂
    ∙ ap (λ (m : List ℕ). sets m 538 second) e₁
    ∙ ap (λ (m : ℕ). sets (sets l 10 first) (10 + m) second) (sym n)
    ∙ sym (sets_then l 10 first second)
    ∙ ap (sets l 10) (append_assoc q.incap (q.outcap ++ q.crosscap) second ∙ ap (λ (m : List ℕ). q.incap ++ m) (append_assoc q.outcap q.crosscap second))

-- the ten numbers and then the queues
pub image_stored : (l l₁ l₂ : List ℕ) (s : Switch) → l₁ ≡ sets l 0 (numbers_of s) → l₂ ≡ sets l₁ 10 (queue_words s.queues) → l₂ ≡ sets l 0 (image_of s)
unfolding image_of numbers_of
image_stored l l₁ l₂ s e₁ e₂ =
    e₂ ∙ ap (λ (m : List ℕ). sets m 10 (queue_words s.queues)) e₁ ∙ sym (sets_then l 0 (numbers_of s) (queue_words s.queues))

-- words that are stored over as many others leave nothing of those
pub fills : (l vs : List ℕ) → length l ≡ length vs → sets l 0 vs ≡ vs
fills l vs e =
    sets_start l vs (omega arith)
    ∙ ap (λ (m : List ℕ). vs ++ m) (drop_of_length-le l {i = length vs} (omega arith))
    ∙ append-nil vs

-- words of two lists that stand one after the other
words_past : (a b : List ℕ) (m k n : ℕ) → length a ≡ m → words (a ++ b) (m + k) n ≡ words b k n
unfolding words
words_past a b m k n e =
    ap (λ (f : ℕ → ℕ). list_below f n)
    (fun_ext (λ j. ap (λ (p : ℕ). get_or (a ++ b) (p + k + j) 0) (sym e) ∙ rw add_assoc (get_or-append-add a b (k + j) 0)))

words_first : (a b : List ℕ) (n : ℕ) → length a ≡ n → words (a ++ b) 0 n ≡ a
unfolding words
words_first a b n e = listed_is (λ k. get_or (a ++ b) (0 + k) 0) n a e (λ k h. rw zero-add (get_or-append a b 0 k (omega arith)))

words_all : (a : List ℕ) (n : ℕ) → length a ≡ n → words a 0 n ≡ a
unfolding words
words_all a n e = listed_is (λ k. get_or a (0 + k) 0) n a e (λ k h. rw zero-add)

module _ (s : Switch) (z : Sized s.queues) where
  pub image_length : length (image_of s) ≡ 1066
  unfolding image_of numbers_of queue_words
  image_length =
      let q = s.queues in
      simp length-append (omega (arith, z.incap, z.outcap, z.crosscap, z.inlen, z.outlen, z.crosslen))

  queues_back : queues_of (image_of s) ≡ s.queues
  unfolding queues_of image_of queue_words numbers_of
  queues_back =
      let q = s.queues in
      let n = numbers_of s in
      let crosslen' = q.crosslen in
      let outlen' = q.outlen ++ crosslen' in
      let inlen' = q.inlen ++ outlen' in
      let crosscap' = q.crosscap ++ inlen' in
      let outcap' = q.outcap ++ crosscap' in
      let a : (k m : ℕ) → words (n ++ (q.incap ++ outcap')) (10 + k) m ≡ words (q.incap ++ outcap') k m = λ k m. words_past n (q.incap ++ outcap') 10 k m refl in
      let b : (k m : ℕ) → words (q.incap ++ outcap') (256 + k) m ≡ words outcap' k m = λ k m. words_past q.incap outcap' 256 k m z.incap in
      let c : (k m : ℕ) → words outcap' (16 + k) m ≡ words crosscap' k m = λ k m. words_past q.outcap crosscap' 16 k m z.outcap in
      let d : (k m : ℕ) → words crosscap' (256 + k) m ≡ words inlen' k m = λ k m. words_past q.crosscap inlen' 256 k m z.crosscap in
      let e : (k m : ℕ) → words inlen' (256 + k) m ≡ words outlen' k m = λ k m. words_past q.inlen outlen' 256 k m z.inlen in
      let f : (k m : ℕ) → words outlen' (16 + k) m ≡ words crosslen' k m = λ k m. words_past q.outlen crosslen' 16 k m z.outlen in
      sym
      (queues_read (image_of s) q.incap q.outcap q.crosscap q.inlen q.outlen q.crosslen
      (sym (a 0 256 ∙ words_first q.incap outcap' 256 z.incap))
      (sym (a 256 16 ∙ b 0 16 ∙ words_first q.outcap crosscap' 16 z.outcap))
      (sym (a 272 256 ∙ b 16 256 ∙ c 0 256 ∙ words_first q.crosscap inlen' 256 z.crosscap))
      (sym (a 528 256 ∙ b 272 256 ∙ c 256 256 ∙ d 0 256 ∙ words_first q.inlen outlen' 256 z.inlen))
      (sym (a 784 16 ∙ b 528 16 ∙ c 512 16 ∙ d 256 16 ∙ e 0 16 ∙ words_first q.outlen crosslen' 16 z.outlen))
      (sym (a 800 256 ∙ b 544 256 ∙ c 528 256 ∙ d 272 256 ∙ e 16 256 ∙ f 0 256 ∙ words_all q.crosslen 256 z.crosslen)))

  -- nothing is lost
  pub image_back : switch_of (image_of s) ≡ s
  unfolding image_of numbers_of
  image_back = sym (switch_read (image_of s) s.model s.order s.ports s.speedup s.slot s.arrived s.dropped s.crossed s.outmoved s.sent s.queues refl refl refl refl refl refl refl refl refl refl (sym queues_back))

  -- where exactly 1,066 words are lent
  pub image_fills : (state : List ℕ) → length state ≡ 1066 → sets state 0 (image_of s) ≡ image_of s
  image_fills state e = fills state (image_of s) (e ∙ sym image_length)
