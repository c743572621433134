-- Each contract of this crate allows one answer and leaves the page one way, as `Unique` of base says it.
-- Assumes nothing.
use Prim.Native.Nat.{ℕ}
use mathlib.Core.Path.{◌≡◌}
use mathlib.Core.List.{List}
use Rattle.base.proofs.Unique.{determined, OneShown}
use Rattle.text.specs.Text.{Written}
use Rattle.text.proofs.put.Kinds as put-kinds
use Rattle.text.proofs.put.Reads as put
use Rattle.text.proofs.decimal.Kinds as decimal-kinds
use Rattle.text.proofs.decimal.Reads as decimal
use Rattle.text.proofs.hex.Kinds as hex-kinds
use Rattle.text.proofs.hex.Reads as hex
use Rattle.text.proofs.Page.put.Kinds as page-put-kinds
use Rattle.text.proofs.Page.put.Reads as page-put
use Rattle.text.proofs.Page.decimal.Kinds as page-decimal-kinds
use Rattle.text.proofs.Page.decimal.Reads as page-decimal
use Rattle.text.proofs.Page.hex.Kinds as page-hex-kinds
use Rattle.text.proofs.Page.hex.Reads as page-hex
use Rattle.text.proofs.Page.line.Kinds as page-line-kinds
use Rattle.text.proofs.Page.line.Reads as page-line
use Rattle.text.proofs.line.Kinds as line-kinds
use Rattle.text.proofs.line.Reads as line

-- what `Written` says fixes the place and the page
pub written_one : {page text after after' : List ℕ} {at next next' : ℕ} → Written page at text after next → Written page at text after' next' → ◌≡◌ {A = ℕ × List ℕ} (next, after) (next', after')
written_one a b = λ i. (determined a.of_next b.of_next i, determined a.of_page b.of_page i)

pub put_one : OneShown 2 put-kinds.ps put-kinds.r {A = λ κs. ℕ × List ℕ} (λ κs x d. (x, d.0.now)) put.Post
put_one κs a x y d e = written_one

pub decimal_one : OneShown 1 decimal-kinds.ps decimal-kinds.r {A = λ κs. ℕ × List ℕ} (λ κs x d. (x, d.0.now)) decimal.Post
decimal_one κs a x y d e = written_one

pub hex_one : OneShown 1 hex-kinds.ps hex-kinds.r {A = λ κs. ℕ × List ℕ} (λ κs x d. (x, d.0.now)) hex.Post
hex_one κs a x y d e = written_one

pub line_one : OneShown 2 line-kinds.ps line-kinds.r {A = λ κs. ℕ × List ℕ} (λ κs x d. (x, d.0.now)) line.Post
line_one κs a x y d e = written_one

pub page_put_one : OneShown 3 page-put-kinds.ps page-put-kinds.r {A = λ κs. ℕ × List ℕ} (λ κs x d. (d.0.now.at, d.0.now.bytes.now)) page-put.Post
page_put_one κs a x y d e p q = written_one p.written q.written

pub page_decimal_one : OneShown 2 page-decimal-kinds.ps page-decimal-kinds.r {A = λ κs. ℕ × List ℕ} (λ κs x d. (d.0.now.at, d.0.now.bytes.now)) page-decimal.Post
page_decimal_one κs a x y d e p q = written_one p.written q.written

pub page_hex_one : OneShown 2 page-hex-kinds.ps page-hex-kinds.r {A = λ κs. ℕ × List ℕ} (λ κs x d. (d.0.now.at, d.0.now.bytes.now)) page-hex.Post
page_hex_one κs a x y d e p q = written_one p.written q.written

pub page_line_one : OneShown 3 page-line-kinds.ps page-line-kinds.r {A = λ κs. ℕ × List ℕ} (λ κs x d. (d.0.now.at, d.0.now.bytes.now)) page-line.Post
page_line_one κs a x y d e p q = written_one p.written q.written
