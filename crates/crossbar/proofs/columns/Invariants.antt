-- `crossbar::columns` meets its contract. The invariant: where the bits are none the rows passed are empty.
-- Assumes nothing.
use Rattle.std.proofs.Common.{◌≡◌, ◌*◌, length, drop}
use Rattle.std.specs.Slice.Iter.{chunks_exact_rest, chunks_exact_size}
use Rattle.crossbar.proofs.ColumnsLaws.{SaidOf}
use Rattle.crossbar.proofs.columns.Given as goal

abbrev pub invariant-loop-row : goal.invariant-loop-row
invariant-loop-row l = record {
  size : chunks_exact_size l.row-iterator ≡ 16;
  rest : chunks_exact_rest l.row-iterator ≡ drop (16 * length l.yielded) l.crosslen;
  long : length l.bits ≡ 16;
  said : SaidOf l.crosslen l.bits (length l.yielded);
}
