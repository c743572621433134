-- `trace::numbers::bytes` meets its contract.
-- Assumes nothing.
use borrow.Author.Rules.{rules}
use Prim.Native.Nat.{ℕ, ◌+◌}
use mathlib.Core.Path.{◌≡◌, refl, ap, ◌∙◌}
use lib.ListN.{get_or}
use mathlib.Core.List.{List}
use denote.Bor.{Bor}
use Rattle.base.specs.Digits.{byte}
use Rattle.base.proofs.Listed.{from_fn_listed, listed_at}
use Rattle.trace.proofs.numbers.bytes.Goals as goal

pub returns : goal.returns
returns g c =
    let s = c.args.s.now in
    let p = c.args.p in
    let spelled = λ (k : ℕ). byte s (p + k) in
    let listed = from_fn_listed _ spelled
    (λ (f : Bor (List ℕ) × Bor ℕ). (f.0.now ≡ s) × (f.1.now ≡ p))
    (λ f i y q k r. (search rules, search rules)) _ _ _ (refl, refl) c.from_fn.ensures.items in
    λ k l. ap (λ (x : List ℕ). get_or x k 0) listed ∙ listed_at spelled _ k l
