use Rattle.std.proofs.Common.{arith}
use Rattle.book.proofs.Readable.{read_is}
use Rattle.book.proofs.Counted.{book_counted}
use Rattle.book.proofs.Book.pair_count.Goals as goal

pub overflow_sub-result : goal.overflow_sub-result
overflow_sub-result c = let b = c.args.self.now in omega (arith, book_counted _ (read_is b.bytes.now b.counts b.readable))

pub overflow_sub-result-2 : goal.overflow_sub-result-2
overflow_sub-result-2 c = let b = c.args.self.now in omega (arith, book_counted _ (read_is b.bytes.now b.counts b.readable))

pub returns : goal.returns
returns c = let b = c.args.self.now in omega (arith, book_counted _ (read_is b.bytes.now b.counts b.readable))
