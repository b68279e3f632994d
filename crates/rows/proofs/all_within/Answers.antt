-- `rows::all_within` meets its contract: none is passed at first, and then one number more (`every_more`).
use Rattle.std.proofs.Common.{refl}
use Rattle.transport.specs.Finder.{every}
use Rattle.transport.proofs.Laws.Searches.{every_more}
use Rattle.rows.proofs.all_within.Goals as goal

pub loop-k-init : goal.loop-k-init
unfolding every
loop-k-init c = refl

pub loop-k-preserved : goal.loop-k-preserved
loop-k-preserved c = rw (← every_more, c.lifted.ensures, c.u32_in.ensures, c.loop-k.invariant) refl
