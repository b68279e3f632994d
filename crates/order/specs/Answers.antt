-- What the answers of this crate say in document 01's own terms.
use Rattle.std.specs.Prelude.{List, [], ◌∷◌, Bool, not, ℕ}
use Rattle.transport.specs.Greedy.{Pair}
use Rattle.transport.specs.Problem.{Problem}
use Rattle.specification.specs.Reply.{Reply, gives, refuse_if, ◌>>=◌}
use Rattle.specification.specs.Check.{check_pairs, complete, check_monge}

-- one pair of an order, at a place, by whether it was met before: 9, then 10
abbrev pub one_pair : Problem → ℕ → ℕ → Bool → ℕ → Reply (Unit {0})
one_pair P i j met place = refuse_if (not (P.admits i j)) 9 (place ∷ []) >>= λ _. refuse_if met 10 (place ∷ [])

-- the pairs of an order: 9 or 10 at each, then 14, then 11 or 12, and else the count
abbrev pub checked_pairs : Problem → List Pair → ℕ → Reply ℕ
checked_pairs P S count = do
  _ ← check_pairs P [] 0 S
  _ ← refuse_if (not (complete P S)) 14 []
  _ ← check_monge P S
  gives count
