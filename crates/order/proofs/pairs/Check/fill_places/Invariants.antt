-- The array holds the places of the pairs passed, and what the specification says of all pairs is what it says of those that are left, after
-- those passed.
use Rattle.std.proofs.Common.{◌≡◌, []}
use Rattle.specification.specs.Book.{problem_of}
use Rattle.specification.specs.Check.{check_pairs}
use Rattle.walk.specs.Places.{rest}
use Rattle.order.specs.Noted.{passed, met_at, Shows}
use Rattle.order.proofs.pairs.Check.fill_places.Given as goal

abbrev pub invariant-loop-place : goal.invariant-loop-place
invariant-loop-place l =
    let s = l.self in
    record {
      shows : Shows 32 32 l.places (met_at s.pairs.order.now l.place);
      same_reply : check_pairs (problem_of s.book.now.bytes.now) [] 0 (rest s.pairs.order.now s.pairs.count 0)
          ≡ check_pairs (problem_of s.book.now.bytes.now) (passed s.pairs.order.now l.place) l.place (rest s.pairs.order.now s.pairs.count l.place);
    }
