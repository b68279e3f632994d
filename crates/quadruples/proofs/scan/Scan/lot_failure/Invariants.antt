-- What the specification says of all calls is what it says of those left.
use Rattle.std.proofs.Common.{◌≡◌, ◌-◌}
use Rattle.transport.specs.Greedy.{pair}
use Rattle.specification.specs.Book.{problem_of}
use Rattle.specification.specs.Check.{in_turn}
use Rattle.quadruples.specs.Scan.{quadruple_at}
use Rattle.quadruples.proofs.scan.Scan.lot_failure.Given as goal

abbrev pub invariant-loop-l : goal.invariant-loop-l
invariant-loop-l l =
    let s = l.self in
    let calls = s.book.now.counts.calls in
    let at = quadruple_at (problem_of s.book.now.bytes.now) s.places.now s.place (pair s.lot.0 s.call.0) l.k.0 in
    in_turn calls 0 at ≡ in_turn (calls - l.l) l.l at
