-- The crosspoints of a new switch by its model, and what an accepted trace's header says of the ports.
-- Assumes nothing.
use Prim.Native.Nat.{ℕ, ◌+◌, ◌*◌, ◌≤◌}
use mathlib.Core.Path.{◌≡◌, sym, ap, ◌∙◌, subst}
use mathlib.Core.Bool.{Bool, true, false, ◌&&◌, cond}
use mathlib.Core.List.{List}
use lib.ListN.{replicate}
use Rattle.base.specs.Below.{list_below}
use Rattle.base.proofs.Listed.{listed_zeros}
use Rattle.layout.specs.declared.Header.{Header}
use Rattle.layout.specs.Header.{has_crosspoints}
use Rattle.trace.specs.Reading.{header_of, reading}
use Rattle.layout.proofs.HeaderLaws.{allowed}
use Rattle.trace.proofs.ReadingLaws.{whole}
use Rattle.switch.specs.Allowed.{used_pair}
use Rattle.switch.specs.Making.{capacity_of_pair, input_capacities, output_capacities, crosspoint_capacities, empty_queues, unused, fresh}
use Rattle.queues.specs.declared.Queues.{Queues}
use Rattle.switch.specs.declared.Switch.{Switch}

pub with_crosspoints : (s : List ℕ) (model ports : ℕ) → has_crosspoints model ≡ true → crosspoint_capacities s model ports ≡ list_below (λ k. cond (used_pair ports k) (capacity_of_pair s ports (ports * ports + ports) k) 0) 256
unfolding crosspoint_capacities
with_crosspoints s model ports e =
    ap (λ (b : Bool). list_below (λ k. cond (b && used_pair ports k) (capacity_of_pair s ports (ports * ports + ports) k) 0) 256) e

pub without_crosspoints : (s : List ℕ) (model ports : ℕ) → has_crosspoints model ≡ false → crosspoint_capacities s model ports ≡ replicate 256 0
unfolding crosspoint_capacities
without_crosspoints s model ports e =
    ap (λ (b : Bool). list_below (λ k. cond (b && used_pair ports k) (capacity_of_pair s ports (ports * ports + ports) k) 0) 256) e
    ∙ listed_zeros 256

pub ports_few : (s : List ℕ) (h : Header) → reading s ≡ 0 → h ≡ header_of s → h.ports ≤ 16
ports_few s h r e = subst (λ (h : Header). h.ports ≤ 16) (sym e) (allowed (header_of s) (whole s r).header).ports.1

-- the parts of a new switch, put together
pub fresh_made : (s : List ℕ) (h : Header) (i o x : List ℕ) (q : Queues) (w : Switch) → h ≡ header_of s → i ≡ input_capacities s h.ports → o ≡ output_capacities s h.ports → x ≡ crosspoint_capacities s h.model h.ports → q ≡ empty_queues i o x → w ≡ unused h.model h.order h.ports h.speedup q → w ≡ fresh s
unfolding fresh
fresh_made s h i o x q w e ei eo ex eq ew =
    ew
    ∙ ap (unused h.model h.order h.ports h.speedup) (eq ∙ rw (ei, eo, ex))
    ∙ ap
    (λ (h : Header).
    unused h.model h.order h.ports h.speedup
    (empty_queues (input_capacities s h.ports) (output_capacities s h.ports) (crosspoint_capacities s h.model h.ports)))
    e
