-- `panel_table::filling::Table::of`: at first no lot is entered.
use mathlib.Core.Path.{refl}
use native.Mathlib.Omega.{arith}
use Rattle.book.proofs.Readable.{read_is}
use Rattle.slacks.proofs.BySlacks.{capped_zeros}
use Rattle.panel_table.proofs.Entering.{filled_none}
use Rattle.panel_table.proofs.filling.Table.of.Goals as goal

pub invariant_of-table : goal.invariant_of-table
invariant_of-table c = record { capped = capped_zeros 64 }

pub loop-i-init : goal.loop-i-init
loop-i-init c = record { filled = filled_none refl refl; counts = (refl, refl, refl) }

pub enter-requires : goal.enter-requires
enter-requires c = (c.requires, omega (arith, (read_is _ _ c.args.book.now.readable).lots_is, c.loop-i-test.true), c.loop-i.invariant.filled)
