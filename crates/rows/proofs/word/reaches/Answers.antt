-- `rows::word::reaches` meets its contract: a word of 32 bits is below every power from 2 ^ 32 on.
use Rattle.std.proofs.Common.{sym, le-ltb}
use borrow.Author.Tests.{lt-leb}
use Rattle.rows.proofs.Bits.{below_power}
use Rattle.rows.proofs.word.reaches.Goals as goal

pub returns-else-j-lt32 : goal.returns-else-j-lt32
returns-else-j-lt32 c =
    rw (le-ltb c.args.j 32 c.if-j-lt32.false) (sym (lt-leb _ _ (below_power _ c.ranges.word.fits c.if-j-lt32.false)))
