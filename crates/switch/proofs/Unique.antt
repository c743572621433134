-- Each contract of this crate allows one answer, refusals too, as `Unique` of base says it.
-- Assumes nothing.
use Rattle.base.proofs.Unique.{determined, OneAnswer}
use Rattle.switch.proofs.holds.Kinds as holds-kinds
use Rattle.switch.proofs.holds.Reads as holds
use Rattle.switch.proofs.refusal.Kinds as refusal-kinds
use Rattle.switch.proofs.refusal.Reads as refusal
use Rattle.switch.proofs.Switch.settle.Kinds as settle-kinds
use Rattle.switch.proofs.Switch.settle.Reads as settle
use Rattle.switch.proofs.Switch.new.Kinds as new-kinds
use Rattle.switch.proofs.Switch.new.Reads as new
use Rattle.switch.proofs.Switch.arrive.Kinds as arrive-kinds
use Rattle.switch.proofs.Switch.arrive.Reads as arrive
use Rattle.switch.proofs.Switch.close.Kinds as close-kinds
use Rattle.switch.proofs.Switch.close.Reads as close
use Rattle.switch.proofs.Switch.drain.Kinds as drain-kinds
use Rattle.switch.proofs.Switch.drain.Reads as drain

pub holds_one : OneAnswer 0 holds-kinds.ps holds-kinds.r holds.Post
holds_one κs a x y d e p q =
    λ i.
    record {
      inputs = determined p.0.0 q.0.0 i;
      outputs = determined p.0.1 q.0.1 i;
      crosspoints = determined p.0.2 q.0.2 i;
    }

pub refusal_one : OneAnswer 0 refusal-kinds.ps refusal-kinds.r refusal.Post
refusal_one κs a x y d e = determined

pub settle_one : OneAnswer 0 settle-kinds.ps settle-kinds.r settle.Post
settle_one κs a x y d e = determined

pub new_one : OneAnswer 1 new-kinds.ps new-kinds.r new.Post
new_one κs a x y d e = determined

pub arrive_one : OneAnswer 0 arrive-kinds.ps arrive-kinds.r arrive.Post
arrive_one κs a x y d e = determined

pub close_one : OneAnswer 0 close-kinds.ps close-kinds.r close.Post
close_one κs a x y d e = determined

pub drain_one : OneAnswer 0 drain-kinds.ps drain-kinds.r drain.Post
drain_one κs a x y d e = determined
