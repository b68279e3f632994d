-- What a scan knows of the book that it reads: lots and calls are of the table's.
use Rattle.std.proofs.Common.{ℕ, ◌<◌, arith}
use Rattle.book.proofs.Readable.{read_is, lots_few}
use Rattle.book.proofs.Tables.{lot_few, call_few}
use Rattle.quadruples.specs.declared.scan.Scan.{Scan}

module _ (s : Scan) where
  pub lot_below : (k : ℕ) → k < s.book.now.counts.lots → k < 32
  lot_below k h = omega (arith, lots_few _ s.book.now.counts s.book.now.readable)

  pub call_below : (l : ℕ) → l < s.book.now.counts.calls → l < 32
  call_below l h =
      let read = read_is _ s.book.now.counts s.book.now.readable in
      omega (arith, read.calls_is, read.known.calls_within)

  pub own_below : (s.lot.0 < 32) × (s.call.0 < 32)
  own_below =
      let read = read_is _ s.book.now.counts s.book.now.readable in
      (lot_few _ read _ s.own.0, call_few _ read _ s.own.1)
