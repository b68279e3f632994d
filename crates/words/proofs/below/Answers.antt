-- `words::below` meets its contract: the remainder by a power of two has the lower digits.
use Rattle.std.proofs.Common.{refl, arith}
use Rattle.rows.proofs.Bits.{bit_past, below_power, one_shifted}
use Rattle.words.proofs.Changes.{below_is}
use Rattle.words.proofs.below.Goals as goal

pub returns-then-j-ge32 : goal.returns-then-j-ge32
returns-then-j-ge32 c = record {
  lower = λ l h. refl;
  none = λ l h. bit_past c.args.word l (below_power l c.ranges.word.fits (omega (arith, c.if-j-ge32.true)));
}

pub returns-else-j-ge32 : goal.returns-else-j-ge32
returns-else-j-ge32 c = rw (one_shifted c.args.j c.if-j-ge32.false) (below_is c.args.word c.args.j)
