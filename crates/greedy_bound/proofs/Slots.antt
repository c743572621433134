-- A slot of the run, as the bound asks for it: its arrivals in file order, its cycles and its sendings. It is shown for any orders of visiting and any outputs
-- that may send; closing a slot of the run is the case in which each order is the slot's turn and every output may.
-- Assumes nothing.
use Prim.Native.Nat.{ℕ, zero, suc, ◌+◌, ◌≤◌, ◌<◌}
use native.Mathlib.Omega.{arith}
use mathlib.Core.Path.{◌≡◌, refl, sym, ap, ap₂, ◌∙◌, subst}
use mathlib.Core.Bool.{Bool, false}
use mathlib.Core.List.{List, []}
use Rattle.layout.specs.Header.{has_crosspoints}
use Rattle.trace.specs.Slots.{arrival_of}
use Rattle.queues.specs.declared.Queues.{Queues}
use Rattle.queues.specs.Events.{of_kind}
use Rattle.queues.specs.Turn.{turn}
use Rattle.queues.specs.Slot.{Done, after, arrival, cioq_cycle, cycle_of, cycles, sendings, free, send_over, closing}
use Rattle.slot_laws.proofs.Balance.{Kept}
use Rattle.slot_laws.proofs.SlotLaws.{arrival_arrived}
use Rattle.slot_laws.proofs.TurnLaws.{Round, turn_round}
use Rattle.switch.specs.declared.Switch.{Switch}
use Rattle.switch.specs.Switch.{advanced}
use Rattle.run.specs.Run.{History, grown, arriving, arrivals, closed}
use Rattle.bound.specs.Switch.{Config, Pair, Slot, State}
use Rattle.bound.specs.Greedy.{Arrivals, none, Passed}
use Rattle.bound.proofs.History.{arrivals_snoc}
use Rattle.greedy_bound.specs.Rivalry.{arrivals_from, seen, state_of}
use Rattle.greedy_bound.specs.Orders.{cycles_by, closing_by, closed_by}
use Rattle.greedy_bound.proofs.Linked.{Queued, queued_kept, arrival_linked, cycles_linked, sending_linked, closing_kept}

-- w is a switch of c without crosspoints
pub record Linked (c : Config) (w : Switch) : Type 0 where
  pub model : has_crosspoints w.model ≡ false
  pub ports : w.ports ≡ c.ports
  pub speedup : w.speedup ≡ c.speedup
  pub queues : Queued c w.queues

-- a closing of the run is one by its turn
cycles_by_lem : (q : Queues) (ports : ℕ) (order : List ℕ) (slot k : ℕ) → cycles false q ports order slot k ≡ cycles_by (λ k. order) q ports slot k
unfolding cycles cycles_by cycle_of
cycles_by_lem q ports order slot zero = refl
cycles_by_lem q ports order slot (suc k) = ap (λ (b : Done). after b (cioq_cycle b.queues ports order slot k)) (cycles_by_lem q ports order slot k)

closing_by_lem : (q : Queues) (ports : ℕ) (order : List ℕ) (speedup slot : ℕ) → closing false q ports order speedup slot ≡ closing_by (λ k. order) free q ports speedup slot
unfolding closing closing_by
closing_by_lem q ports order speedup slot =
    ap (λ (b : Done). after b (send_over b.queues (sendings free b.queues.outlen slot ports))) (cycles_by_lem q ports order slot speedup)

pub closed_by_lem : (h : History) → has_crosspoints h.switch.model ≡ false
    → closed h ≡ closed_by (λ k. turn h.switch.order h.switch.ports h.switch.slot) free h
unfolding closed closed_by
closed_by_lem h e =
    let w = h.switch in
    let order = turn w.order w.ports w.slot in
    ap (λ (d : Done). grown h d (w.slot + 1))
    (ap (λ (x : Bool). closing x w.queues w.ports order w.speedup w.slot) e ∙ closing_by_lem w.queues w.ports order w.speedup w.slot)

module _ (c : Config) (few : c.ports ≤ 16) where
  linked_advanced : (w : Switch) (d : Done) (slot : ℕ) → Linked c w → Kept w.queues d.queues → Linked c (advanced w d slot)
  unfolding advanced
  linked_advanced w d slot x k = record { model = x.model; ports = x.ports; speedup = x.speedup; queues = queued_kept c k x.queues }

  -- the arrivals of a slot
  module _ (s : List ℕ) (h : History) (start : ℕ) (x : Linked c h.switch) where
    pub arrivals_keep : (n : ℕ) → Linked c (arrivals s h start n).switch
    unfolding arrivals arriving grown
    arrivals_keep zero = x
    arrivals_keep (suc n) =
        let w = (arrivals s h start n).switch in
        let p = arrival_of s (start + n) in
        let y = arrivals_keep n in
        linked_advanced w (arrival w.queues w.slot p.input p.output) w.slot y
        (arrival_arrived w.queues w.slot p.input p.output y.queues.sized).kept

    pub arrivals_linked : (n : ℕ) → ((k : ℕ) → k < n → ((arrival_of s (start + k)).input < c.ports) × ((arrival_of s (start + k)).output < c.ports))
        → Arrivals c (arrivals_from s start n) (state_of h.switch) (state_of (arrivals s h start n).switch)
    unfolding arrivals arriving grown advanced arrivals_from
    arrivals_linked zero below = none
    arrivals_linked (suc n) below =
        let w = (arrivals s h start n).switch in
        let p = arrival_of s (start + n) in
        let b = below n (omega arith) in
        arrivals_snoc c (arrivals_linked n (λ k l. below k (omega arith)))
        (arrival_linked c few w.queues w.slot p.input p.output w.crossed w.sent (arrivals_keep n).queues b.0 b.1)

  -- the rest of a slot
  module _ (h : History) (x : Linked c h.switch) (orders : ℕ → List ℕ) (rounds : (k : ℕ) → Round c.ports (orders k)) (here : Slot) where
    ended : Done
    ended = closing_by orders here.may_send h.switch.queues c.ports c.speedup h.switch.slot

    ended_so : ended ≡ closing_by orders here.may_send h.switch.queues h.switch.ports h.switch.speedup h.switch.slot
    unfolding ended
    ended_so = ap₂ (λ (p n : ℕ). closing_by orders here.may_send h.switch.queues p n h.switch.slot) (sym x.ports) (sym x.speedup)

    pub closed_keeps : Linked c (closed_by orders here.may_send h).switch
    unfolding closed_by grown ended
    closed_keeps =
        let w = h.switch in
        linked_advanced w (closing_by orders here.may_send w.queues w.ports w.speedup w.slot) (w.slot + 1) x
        (subst (λ (d : Done). Kept w.queues d.queues) ended_so
        (closing_kept c few w.queues x.queues orders rounds w.slot here c.speedup))

    pub closed_linked : (g : State) → Arrivals c here.arrivals g (state_of h.switch) → Passed c here g (state_of (closed_by orders here.may_send h).switch)
    unfolding closed_by grown advanced ended
    closed_linked g arrived =
        let w = h.switch in
        let b = cycles_by orders w.queues c.ports w.slot c.speedup in
        subst (λ (d : Done). Passed c here g (seen d.queues (w.crossed + of_kind 3 d.events) (w.sent + of_kind 5 d.events))) ended_so
        (record {
          loaded = state_of w;
          matched = seen b.queues (w.crossed + of_kind 3 b.events) w.sent;
          arrivals = arrived;
          cycles = cycles_linked c few w.queues x.queues orders rounds w.slot w.crossed w.sent c.speedup;
          sending = sending_linked c few w.queues x.queues orders rounds w.slot here c.speedup w.crossed w.sent;
        })

  -- closing a slot of the run: every output may send
  module _ (h : History) (x : Linked c h.switch) where
    in_turn : (k : ℕ) → Round c.ports (turn h.switch.order h.switch.ports h.switch.slot)
    in_turn k =
        let w = h.switch in
        subst (λ (n : ℕ). Round n (turn w.order w.ports w.slot)) x.ports (turn_round w.order w.ports w.slot)

    pub run_keeps : Linked c (closed h).switch
    run_keeps =
        let w = h.switch in
        subst (λ (e : History). Linked c e.switch) (sym (closed_by_lem h x.model))
        (closed_keeps h x (λ k. turn w.order w.ports w.slot) in_turn (record { arrivals = []; may_send = free }))

    pub run_linked : (l : List Pair) (g : State) → Arrivals c l g (state_of h.switch)
        → Passed c (record { arrivals = l; may_send = free }) g (state_of (closed h).switch)
    run_linked l g arrived =
        let w = h.switch in
        subst (λ (e : History). Passed c (record { arrivals = l; may_send = free }) g (state_of e.switch)) (sym (closed_by_lem h x.model))
        (closed_linked h x (λ k. turn w.order w.ports w.slot) in_turn (record { arrivals = l; may_send = free }) g arrived)
