use Rattle.std.proofs.Common.{arith}
use Rattle.quadruples.proofs.Scanned.{own_below, call_below}
use Rattle.quadruples.proofs.scan.Scan.call_failure.Goals as goal

pub entry_at-requires : goal.entry_at-requires
entry_at-requires c = let s = c.args.self.now in (omega arith, ((own_below s).0, call_below s _ c.requires.call_in))

pub test_quadruple-requires-clause-three_eligible : goal.test_quadruple-requires-clause-three_eligible
test_quadruple-requires-clause-three_eligible c =
    let s = c.args.self.now in
    record {
      readable = (s.book.now.counts, s.book.now.readable);
      own = s.own;
      by_lot = s.placed _ _ (own_below s).0 (call_below s _ c.requires.call_in) (omega arith);
      by_call = c.requires.lot_in;
    }
