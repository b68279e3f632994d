-- The quadruples of a pair by the array of places: which of them its scan tests.
use Rattle.std.specs.Prelude.{cond, ◌&&◌, List, ℕ, ◌+◌, ltb}
use Rattle.transport.specs.Greedy.{Pair}
use Rattle.transport.specs.Problem.{Problem}
use Rattle.specification.specs.Reply.{Reply, gives}
use Rattle.specification.specs.Check.{check_quadruple}
use Rattle.book.specs.Table.{entry}

-- a quadruple of the pair p, which stands at a place, with lot k and call l: tested where (i, l) stands later
abbrev pub call_at : Problem → List ℕ → ℕ → Pair → ℕ → ℕ → Reply (Unit {0})
call_at P places place p k l = cond (ltb (place + 1) (entry places p.lot l)) (check_quadruple P p k l) (gives tt)

-- and where both (i, l) and (k, j) do
abbrev pub quadruple_at : Problem → List ℕ → ℕ → Pair → ℕ → ℕ → Reply (Unit {0})
quadruple_at P places place p k l =
    cond (ltb (place + 1) (entry places p.lot l) && ltb (place + 1) (entry places k p.call)) (check_quadruple P p k l) (gives tt)
