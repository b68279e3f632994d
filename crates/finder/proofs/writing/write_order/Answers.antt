-- `finder::writing::write_order` meets its contract. The opening and the copy make the file (`file_written`).
use Rattle.std.proofs.Common.{◌≡◌, ◌+◌, ◌-◌, ◌*◌, arith}
use native.Mathlib.Nat.{sub-zero}
use Rattle.finder.proofs.Writes.{file_written}
use Rattle.finder.proofs.writing.write_order.Goals as goal

pub returns : goal.returns
returns c =
    let p = c.requires in
    let size : 7 + 2 * c.args.count - 7 ≡ 2 * c.args.count = omega arith in
    rw size (file_written c.args.count c.args.pairs.now _ _ _ p.0 p.1 (omega (arith, p.2)) c.write_opening.ensures
    (rw sub-zero at c.copy_from_slice.ensures.after))
