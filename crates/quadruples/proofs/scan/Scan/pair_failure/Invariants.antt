-- What the specification says of all lots is what it says of those left.
use Rattle.std.proofs.Common.{◌≡◌, ℕ, ◌-◌}
use Rattle.transport.specs.Greedy.{pair}
use Rattle.specification.specs.Book.{problem_of}
use Rattle.specification.specs.Check.{in_turn}
use Rattle.quadruples.specs.Scan.{quadruple_at}
use Rattle.quadruples.proofs.scan.Scan.pair_failure.Given as goal

abbrev pub invariant-loop-k : goal.invariant-loop-k
invariant-loop-k l =
    let s = l.self in
    let counts = s.book.now.counts in
    let at = λ (k : ℕ). in_turn counts.calls 0 (quadruple_at (problem_of s.book.now.bytes.now) s.places.now s.place (pair s.lot.0 s.call.0) k) in
    in_turn counts.lots 0 at ≡ in_turn (counts.lots - l.k) l.k at
