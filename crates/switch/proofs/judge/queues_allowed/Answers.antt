-- `switch::judge::queues_allowed` meets its contract.
-- Assumes nothing.
use borrow.Author.Rules.{rules}
use mathlib.Core.Path.{◌≡◌}
use lib.Dec.{ltb}
use Rattle.layout.specs.Header.{has_crosspoints}
use Rattle.switch.specs.Allowed.{used_pair, queues_allowed}
use Rattle.switch.proofs.QueuesKept.{kind_allowed, cross_used}
use Rattle.switch.proofs.judge.queues_allowed.Goals as goal

pub returns-then-outputs : goal.returns-then-outputs
unfolding queues_allowed has_crosspoints
returns-then-outputs c =
    let q = c.args.q in
    let n = c.args.ports in
    let i : c.kind_allowed-inputs.result ≡ kind_allowed (used_pair n) q.incap q.inlen 256 = c.kind_allowed-inputs.ensures (used_pair n) (λ k b h p. search rules) in
    let o : c.kind_allowed-outputs.result ≡ kind_allowed (λ j. ltb j n) q.outcap q.outlen 16 = c.kind_allowed-outputs.ensures (λ j. ltb j n) (λ k b h p. search rules) in
    let x : c.kind_allowed-crosspoints.result ≡ kind_allowed (cross_used c.args.model n) q.crosscap q.crosslen 256 = c.kind_allowed-crosspoints.ensures (cross_used c.args.model n) (λ k b h p. search rules) in
    rw (← i, ← o, ← x) (search rules)

pub returns-else-outputs : goal.returns-else-outputs
unfolding queues_allowed has_crosspoints
returns-else-outputs c =
    let q = c.args.q in
    let n = c.args.ports in
    let i : c.kind_allowed-inputs.result ≡ kind_allowed (used_pair n) q.incap q.inlen 256 = c.kind_allowed-inputs.ensures (used_pair n) (λ k b h p. search rules) in
    let o : c.kind_allowed-outputs.result ≡ kind_allowed (λ j. ltb j n) q.outcap q.outlen 16 = c.kind_allowed-outputs.ensures (λ j. ltb j n) (λ k b h p. search rules) in
    rw (← i, ← o) (search rules)
