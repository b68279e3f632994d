-- `search::marks::Half::release`: the marks of the lots passed are taken back (`Releasing`).
use Rattle.std.proofs.Common.{◌≡◌}
use Rattle.search.proofs.Releasing.{Releasing}
use Rattle.search.proofs.marks.Half.release.Given as goal

abbrev pub invariant-loop-k : goal.invariant-loop-k
invariant-loop-k l =
    Releasing l.j l.lots l.k-iterator.left l.taken l.other.marks l.fn.self.marks l.self.marks l.again × (l.self.waits ≡ l.fn.self.waits)
