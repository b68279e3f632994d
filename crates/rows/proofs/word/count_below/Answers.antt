-- `rows::word::count_below` meets its contract: from 32 on nothing of the word is cut.
use Rattle.std.proofs.Common.{sym, ap, ◌∙◌}
use native.Mathlib.Nat.{mod-eq_of_lt}
use lib.Count.{ones}
use Rattle.rows.proofs.Bits.{below_power}
use Rattle.rows.proofs.word.count_below.Goals as goal

pub returns-then-j-ge32 : goal.returns-then-j-ge32
returns-then-j-ge32 c =
    c.count.ensures ∙ ap ones (sym (mod-eq_of_lt (below_power c.args.j c.ranges.word.fits c.if-j-ge32.true)))
