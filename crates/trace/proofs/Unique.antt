-- Each contract of this crate allows one answer, as `Unique` of base says it. Of a part of the trace that is handed out the bytes are
-- told, and not where they lie.
-- Assumes nothing.
use Rattle.base.proofs.Unique.{determined, OneShown, OneAnswer}
use Rattle.trace.proofs.examine.Kinds as examine-kinds
use Rattle.trace.proofs.examine.Reads as examine
use Rattle.trace.proofs.head.Kinds as head-kinds
use Rattle.trace.proofs.head.Reads as head
use Rattle.trace.proofs.capacity.Kinds as capacity-kinds
use Rattle.trace.proofs.capacity.Reads as capacity
use Rattle.trace.proofs.slot_count.Kinds as slot-count-kinds
use Rattle.trace.proofs.slot_count.Reads as slot-count
use Rattle.trace.proofs.arrival.Kinds as arrival-kinds
use Rattle.trace.proofs.arrival.Reads as arrival
use Rattle.trace.proofs.part_from.Kinds as part-from-kinds
use Rattle.trace.proofs.part_from.Reads as part-from
use Rattle.trace.proofs.stands.Kinds as stands-kinds
use Rattle.trace.proofs.stands.Reads as stands
use Rattle.trace.proofs.slot_part.Kinds as slot-part-kinds
use Rattle.trace.proofs.slot_part.Reads as slot-part

pub examine_one : OneAnswer 1 examine-kinds.ps examine-kinds.r examine.Post
examine_one κs a x y d e = determined

pub head_one : OneAnswer 1 head-kinds.ps head-kinds.r head.Post
head_one κs a x y d e = determined

pub capacity_one : OneAnswer 1 capacity-kinds.ps capacity-kinds.r capacity.Post
capacity_one κs a x y d e = determined

pub slot_count_one : OneAnswer 1 slot-count-kinds.ps slot-count-kinds.r slot-count.Post
slot_count_one κs a x y d e = determined

pub arrival_one : OneAnswer 1 arrival-kinds.ps arrival-kinds.r arrival.Post
arrival_one κs a x y d e = determined

pub part_from_one : OneShown 1 part-from-kinds.ps part-from-kinds.r (λ κs x d. x.now) part-from.Post
part_from_one κs a x y d e = determined

pub stands_one : OneAnswer 1 stands-kinds.ps stands-kinds.r stands.Post
stands_one κs a x y d e = determined

pub slot_part_one : OneShown 1 slot-part-kinds.ps slot-part-kinds.r (λ κs x d. x.now) slot-part.Post
slot_part_one κs a x y d e = determined
