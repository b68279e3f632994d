-- Checking an order (document 01, "Checking an order" and "Refused").
use Rattle.std.specs.Prelude.{List, [], ◌∷◌, Bool, true, cond, not, ◌&&◌, ℕ, zero, suc, ◌+◌, ◌*◌, length, ltb}
use Rattle.transport.specs.Problem.{Problem}
use Rattle.transport.specs.Greedy.{Pair}
use Rattle.transport.specs.Order.{times}
use Rattle.transport.specs.Finder.{every}
use Rattle.specification.specs.Reply.{Reply, gives, refuse_if, ◌>>=◌}
use Rattle.specification.specs.Bytes.{order_mark, read_opening}
use Rattle.specification.specs.Book.{read_book, problem_of}
use Rattle.specification.specs.OrderFile.{order_count, order_pairs}

-- "at each pair 9, then 10": `before` are the pairs already met, and `place` is how many they are ("Places count from 0")
unfoldable pub check_pairs : Problem → List Pair → ℕ → List Pair → Reply (Unit {0})
check_pairs P before place [] = gives tt
check_pairs P before place (p ∷ S) = do
  _ ← refuse_if (not (P.admits p.lot p.call)) 9 (place ∷ [])
  _ ← refuse_if (ltb 0 (times p.lot p.call before)) 10 (place ∷ [])
  check_pairs P (p ∷ before) (suc place) S

-- each eligible pair stands in the list: else 14
abbrev pub complete : Problem → List Pair → Bool
complete P S = every P.lots (λ i. every P.calls (λ j. cond (P.admits i j) (ltb 0 (times i j S)) true))

-- both (i, l) and (k, j) stand in the list, (i, j) being p
abbrev pub both_in : List Pair → Pair → ℕ → ℕ → Bool
both_in S p k l = ltb 0 (times p.lot l S) && ltb 0 (times k p.call S)

-- "(k, l) is eligible, and cost(i, j) + cost(k, l) ≤ cost(i, l) + cost(k, j)": else 11, else 12, (i, j) being p
unfoldable pub check_quadruple : Problem → Pair → ℕ → ℕ → Reply (Unit {0})
check_quadruple P p k l = do
  _ ← refuse_if (not (P.admits k l)) 11 (p.lot ∷ p.call ∷ k ∷ l ∷ [])
  refuse_if (ltb (P.cost p.lot l + P.cost k p.call) (P.cost p.lot p.call + P.cost k l))
      12 (p.lot ∷ p.call ∷ k ∷ l ∷ [])

-- the step f at each number from `from` on, `left` of them, rising
unfoldable pub in_turn : ℕ → ℕ → (ℕ → Reply (Unit {0})) → Reply (Unit {0})
in_turn zero from f = gives tt
in_turn (suc left) from f = do
  _ ← f from
  in_turn left (suc from) f

-- "by the place of (i, j) in the order, then k rising, then l rising": all k and l for which (i, j) precedes (i, l) and (k, j);
-- S is what stands after p, and where (k, l) stands is not asked
unfoldable pub check_monge : Problem → List Pair → Reply (Unit {0})
check_monge P [] = gives tt
check_monge P (p ∷ S) = do
  _ ← in_turn P.lots 0 (λ k. in_turn P.calls 0 (λ l. cond (both_in S p k l) (check_quadruple P p k l) (gives tt)))
  check_monge P S

-- "Order: 1, 2, 3, 6, 8; at each pair 9, then 10; then 14; then 11 or 12", after the book; the reply is the count of pairs
unfoldable pub check_order : List ℕ → List ℕ → Reply ℕ
check_order book s = do
  _ ← read_book book
  _ ← read_opening order_mark 1 s
  _ ← refuse_if (ltb (length s) (7 + 2 * order_count s)) 6 []
  _ ← refuse_if (ltb (7 + 2 * order_count s) (length s)) 8 []
  _ ← check_pairs (problem_of book) [] 0 (order_pairs s)
  _ ← refuse_if (not (complete (problem_of book) (order_pairs s))) 14 []
  _ ← check_monge (problem_of book) (order_pairs s)
  gives (order_count s)
