-- `rows::word::is_set` meets its contract: a word of 32 bits has no bit from 32 on.
use Rattle.std.proofs.Common.{sym, le-ltb}
use Rattle.rows.proofs.Bits.{bit_past, below_power}
use Rattle.rows.proofs.word.is_set.Goals as goal

pub returns-else-j-lt32 : goal.returns-else-j-lt32
returns-else-j-lt32 c =
    rw (le-ltb c.args.j 32 c.if-j-lt32.false) (sym (bit_past _ c.args.j (below_power _ c.ranges.word.fits c.if-j-lt32.false)))
