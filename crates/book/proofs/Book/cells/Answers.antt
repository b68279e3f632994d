use Rattle.std.proofs.Common.{◌*◌, ◌≤◌, arith, mul-le-mul}
use Rattle.book.proofs.Readable.{read_is}
use Rattle.book.proofs.Book.cells.Goals as goal

pub overflow_mul-result : goal.overflow_mul-result
overflow_mul-result c =
    let b = c.args.self.now in
    let r = read_is b.bytes.now b.counts b.readable in
    let lots : b.counts.lots ≤ 32 = omega (arith, r.lots_is, r.known.lots_within) in
    let calls : b.counts.calls ≤ 32 = omega (arith, r.calls_is, r.known.calls_within) in
    let cells : b.counts.lots * b.counts.calls ≤ 32 * 32 = mul-le-mul lots calls in
    omega arith
