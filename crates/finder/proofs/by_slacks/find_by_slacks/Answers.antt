-- `finder::by_slacks::find_by_slacks` meets its contract. What the search found is written: the pairs are those of an order.
use Rattle.std.proofs.Common.{refl, arith}
use Rattle.transport.specs.Finder.{find}
use Rattle.slacks.specs.Slacks.{by_slacks}
use Rattle.slacks.proofs.BySlacks.{size_few}
use Rattle.finder.proofs.Writes.{counts_found, orders_found}
use Rattle.finder.proofs.by_slacks.find_by_slacks.Goals as goal

pub rank-ranking-requires : goal.rank-ranking-requires
rank-ranking-requires c = let t = c.args.table.now in (t.are, omega (arith, size_few t.are, t.counted))

pub write_order-requires : goal.write_order-requires
write_order-requires c =
    let t = c.args.table.now in
    let e = counts_found (by_slacks t.slacks t.lots t.calls) _ _ _ _ refl refl c.in_ok-count.ensures in
    let few = size_few t.are in
    (omega (arith, t.counted), omega (arith, c.find_pairs.auto.pairs), omega (arith, t.counted, c.requires))

pub returns : goal.returns
returns c =
    let t = c.args.table.now in
    orders_found (find (by_slacks t.slacks t.lots t.calls)) _ _ _ c.args.buffer.now _ refl c.in_ok-count.ensures c.write_order.ensures
