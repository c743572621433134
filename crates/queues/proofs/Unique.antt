-- Each contract of this crate allows one answer and leaves what is lent one way, as `Unique` of base says it.
-- Assumes nothing.
use mathlib.Core.List.{List}
use Prim.Native.Nat.{ℕ}
use Rattle.std.proofs.Common.{◌≡◌, ◌∙◌, refl, sym, ap, eqb}
use Rattle.std.specs.Prelude.{Result, Ok, Err, if◌then◌else◌}
use Rattle.queues.specs.declared.Went.{Went}
use Rattle.queues.specs.declared.kind.Kind.{Kind}
use Rattle.queues.specs.declared.kind.Kind.TheVariants.{Accepted, Dropped, Crossed, Outmoved, Sent}
use Rattle.queues.specs.declared.kind.UnknownKind.{UnknownKind}
use Rattle.queues.specs.Kinds.{number_of, Decodes}
use Rattle.queues.proofs.LeftLaws.{left_one}
use Rattle.base.proofs.Unique.{determined, OneAnswer, OneShown}
use Rattle.queues.proofs.Went.none.Kinds as none-kinds
use Rattle.queues.proofs.Went.none.Reads as none
use Rattle.queues.proofs.Went.then.Kinds as then-kinds
use Rattle.queues.proofs.Went.then.Reads as then
use Rattle.queues.proofs.Slot.inputs.Kinds as inputs-kinds
use Rattle.queues.proofs.Slot.inputs.Reads as inputs
use Rattle.queues.proofs.Cycle.event.Kinds as event-kinds
use Rattle.queues.proofs.Cycle.event.Reads as event
use Rattle.queues.proofs.Event.word.Kinds as event-word-kinds
use Rattle.queues.proofs.Event.word.Reads as event-word
use Rattle.queues.proofs.kind.KindTryFromU32.try_from.Kinds as try-from-kinds
use Rattle.queues.proofs.kind.KindTryFromU32.try_from.Reads as try-from
use Rattle.queues.proofs.ports_of.Kinds as ports-of-kinds
use Rattle.queues.proofs.ports_of.Reads as ports_of
use Rattle.queues.proofs.place.Kinds as place-kinds
use Rattle.queues.proofs.place.Reads as place
use Rattle.queues.proofs.number_at.Kinds as number-at-kinds
use Rattle.queues.proofs.number_at.Reads as number_at
use Rattle.queues.proofs.waits.Kinds as waits-kinds
use Rattle.queues.proofs.waits.Reads as waits
use Rattle.queues.proofs.has_room.Kinds as has-room-kinds
use Rattle.queues.proofs.has_room.Reads as has_room
use Rattle.queues.proofs.row_empty.Kinds as row-empty-kinds
use Rattle.queues.proofs.row_empty.Reads as row-empty
use Rattle.queues.proofs.leave.Kinds as leave-kinds
use Rattle.queues.proofs.leave.Reads as leave
use Rattle.queues.proofs.join.Kinds as join-kinds
use Rattle.queues.proofs.join.Reads as join
use Rattle.queues.proofs.word.Kinds as word-kinds
use Rattle.queues.proofs.word.Reads as word
use Rattle.queues.proofs.emit.Kinds as emit-kinds
use Rattle.queues.proofs.emit.Reads as emit
use Rattle.queues.proofs.shift.Kinds as shift-kinds
use Rattle.queues.proofs.shift.Reads as shift
use Rattle.queues.proofs.turn.Kinds as turn-kinds
use Rattle.queues.proofs.turn.Reads as turn
use Rattle.queues.proofs.packets.Kinds as packets-kinds
use Rattle.queues.proofs.packets.Reads as packets

pub none_one : OneAnswer 0 none-kinds.ps none-kinds.r none.Post
none_one κs a x y d e = determined

pub then_one : OneAnswer 0 then-kinds.ps then-kinds.r then.Post
then_one κs a x y d e = determined

-- which inputs there are, not where they are lent from
pub inputs_one : OneShown 1 inputs-kinds.ps inputs-kinds.r (λ κs x d. x.now) inputs.Post
inputs_one κs a x y d e = determined

pub event_one : OneAnswer 1 event-kinds.ps event-kinds.r event.Post
event_one κs a x y d e = determined

pub event_word_one : OneAnswer 0 event-word-kinds.ps event-word-kinds.r event-word.Post
event_word_one κs a x y d e = determined

pub ports_of_one : OneAnswer 0 ports-of-kinds.ps ports-of-kinds.r ports_of.Post
ports_of_one κs a x y d e = determined

pub place_one : OneAnswer 0 place-kinds.ps place-kinds.r place.Post
place_one κs a x y d e = determined

pub number_at_one : OneAnswer 1 number-at-kinds.ps number-at-kinds.r number_at.Post
number_at_one κs a x y d e = determined

pub waits_one : OneAnswer 1 waits-kinds.ps waits-kinds.r waits.Post
waits_one κs a x y d e = determined

pub has_room_one : OneAnswer 2 has-room-kinds.ps has-room-kinds.r has_room.Post
has_room_one κs a x y d e = determined

pub row_empty_one : OneAnswer 1 row-empty-kinds.ps row-empty-kinds.r row-empty.Post
row_empty_one κs a x y d e = determined

pub leave_one : OneShown 1 leave-kinds.ps leave-kinds.r (λ κs x d. d.0.now) leave.Post
leave_one κs a x y d e = determined

pub join_one : OneShown 2 join-kinds.ps join-kinds.r (λ κs x d. d.1.0.now) join.Post
join_one κs a x y d e = determined

pub word_one : OneAnswer 0 word-kinds.ps word-kinds.r word.Post
word_one κs a x y d e = determined

pub emit_one : OneShown 1 emit-kinds.ps emit-kinds.r {A = λ κs. ℕ × List ℕ} (λ κs x d. (x, d.0.now)) emit.Post
emit_one κs a x y d e p q = λ i. (determined p.1 q.1 i, determined p.0 q.0 i)

pub turn_one : OneAnswer 0 turn-kinds.ps turn-kinds.r turn.Post
turn_one κs a x y d e = determined

pub packets_one : OneAnswer 1 packets-kinds.ps packets-kinds.r packets.Post
packets_one κs a x y d e p q = determined p.0 q.0

-- beside the answer: both kinds' queues and the log, which are the second, fourth and sixth parameter
pub shift_one : OneShown 4 shift-kinds.ps shift-kinds.r {A = λ κs. Went × List ℕ × List ℕ × List ℕ} (λ κs x d. (x, d.1.0.now, d.1.1.1.0.now, d.1.1.1.1.1.0.now)) shift.Post
shift_one κs a x y d e = left_one

-- a number is of one kind alone
kind_of : ℕ → Kind
kind_of n = if eqb n 1 then Accepted else if eqb n 2 then Dropped else if eqb n 3 then Crossed else if eqb n 4 then Outmoved else Sent

numbered_back : (k : Kind) → kind_of (number_of k) ≡ k
unfolding kind_of
numbered_back Accepted = refl
numbered_back Dropped = refl
numbered_back Crossed = refl
numbered_back Outmoved = refl
numbered_back Sent = refl

one_kind : (n : ℕ) (x y : Result Kind UnknownKind) → Decodes n x → Decodes n y → x ≡ y
one_kind n (Ok k) (Ok l) p q = ap Ok (sym (numbered_back k) ∙ ap kind_of (p ∙ sym q) ∙ numbered_back l)
one_kind n (Ok k) (Err e) p q = absurd (q.1 k p)
one_kind n (Err e) (Ok k) p q = absurd (p.1 k q)
one_kind n (Err e) (Err f) p q = let w : e.0 ≡ f.0 = p.0 ∙ sym q.0 in λ i. Err (record { 0 = w i })

pub try_from_one : OneAnswer 0 try-from-kinds.ps try-from-kinds.r try-from.Post
try_from_one κs a x y d e = one_kind _ x y
