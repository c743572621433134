-- Each contract of this crate allows one answer, as `Unique` of base says it.
-- Assumes nothing.
use Rattle.std.proofs.Common.{◌≡◌, ap, ap₂, ◌∙◌, sym}
use Rattle.std.specs.Prelude.{Result, Ok, Err, IfOk}
use Rattle.base.specs.declared.Refusal.{Refusal}
use Rattle.layout.specs.declared.Header.{Header}
use Rattle.layout.specs.declared.Places.{Places}
use Rattle.layout.specs.declared.file.File.{File}
use Rattle.layout.specs.File.{places_in}
use Rattle.base.proofs.Unique.{determined, OneAnswer, OneShown}
use Rattle.layout.proofs.file.File.of.Kinds as of-kinds
use Rattle.layout.proofs.file.File.of.Reads as of
use Rattle.layout.proofs.file.tables_refusal.Kinds as tables-refusal-kinds
use Rattle.layout.proofs.file.tables_refusal.Reads as tables-refusal
use Rattle.layout.proofs.model_allowed.Kinds as model-allowed-kinds
use Rattle.layout.proofs.model_allowed.Reads as model-allowed
use Rattle.layout.proofs.side_allowed.Kinds as side-allowed-kinds
use Rattle.layout.proofs.side_allowed.Reads as side_allowed_lem
use Rattle.layout.proofs.capacity_allowed.Kinds as capacity-allowed-kinds
use Rattle.layout.proofs.capacity_allowed.Reads as capacity-allowed
use Rattle.layout.proofs.lay_out.Kinds as lay-out-kinds
use Rattle.layout.proofs.lay_out.Reads as lay-out

pub model_allowed_one : OneAnswer 0 model-allowed-kinds.ps model-allowed-kinds.r model-allowed.Post
model_allowed_one κs a x y d e = determined

pub side_allowed_one : OneAnswer 0 side-allowed-kinds.ps side-allowed-kinds.r side_allowed_lem.Post
side_allowed_one κs a x y d e = determined

pub capacity_allowed_one : OneAnswer 0 capacity-allowed-kinds.ps capacity-allowed-kinds.r capacity-allowed.Post
capacity_allowed_one κs a x y d e = determined

pub lay_out_one : OneAnswer 0 lay-out-kinds.ps lay-out-kinds.r lay-out.Post
lay_out_one κs a x y d e = determined

-- a file shows its header and its places
pub seen : Result File Refusal → Result (Header × Places) Refusal
seen (Ok f) = Ok (f.header, f.places)
seen (Err e) = Err e

one_file : (h : Header) (x y : Result File Refusal) → IfOk x (λ f. f.header ≡ h) → IfOk y (λ f. f.header ≡ h) → places_in x ≡ places_in y → seen x ≡ seen y
unfolding places_in seen
one_file h (Ok f) (Ok g) a b e = let p : f.places ≡ g.places = cc in ap₂ (λ (k : Header) (q : Places). Ok (k, q)) (a ∙ sym b) p
one_file h (Ok f) (Err g) a b e = cc
one_file h (Err f) (Ok g) a b e = cc
one_file h (Err f) (Err g) a b e = let p : f ≡ g = cc in ap Err p

pub of_one : OneShown 0 of-kinds.ps of-kinds.r (λ κs x d. seen x) of.Post
of_one κs a x y d e p q = one_file _ x y p.0 q.0 (determined p.1 q.1)

pub tables_refusal_one : (T : _) (l : _) (m : _) (n : _) → OneAnswer 2 (tables-refusal-kinds.ps T l) (tables-refusal-kinds.r T l) (tables-refusal.Post T l m n)
tables_refusal_one T l m n κs a x y d e = determined
