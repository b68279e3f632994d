-- What the search leaves in its array is what a run asks for. Where it answers nothing there is no order, and where it answers a count, the
-- array's front is the file of the order found for the problem that was searched.
use mathlib.Core.Path.{◌≡◌, refl, sym, ◌∙◌, ap}
use mathlib.Core.List.{List}
use Rattle.std.proofs.Common.{Option, Some, None}
use mathlib.Core.Option.{some, none}
use mathlib.Core.Option as math
use Prim.Native.Nat.{ℕ, ◌+◌, ◌*◌}
use native.Mathlib.Omega.{arith}
use lib.ListN.{length, take, drop}
use Rattle.transport.specs.Problem.{Problem}
use Rattle.transport.specs.Greedy.{Pair}
use Rattle.transport.specs.Order.{OrderOf}
use Rattle.transport.specs.Finder.{find, size}
use Rattle.transport.proofs.Orders.Length.{order_length_lem}
use Rattle.transport.proofs.Finder.Find.{find_is_order}
use Rattle.specification.specs.OrderFile.{order_file}
use Rattle.specification.proofs.OrderFiles.{count_back, order_back, order_file_taken}
use Rattle.finder.specs.Writing.{Orders}
use Rattle.run.specs.Run.{pairs_of}

-- the first bytes of the array are the file of the order found for E, which has `count` pairs
pub record IsFile (E : Problem) (after : List ℕ) (count : ℕ) : Type 0 where
  pub order : List Pair
  pub found : find E ≡ some order
  pub count_is : count ≡ length order
  pub file_is : take (7 + 2 * count) after ≡ order_file order

-- the search has answered
module _ (E : Problem) (buffer after : List ℕ) (r : Option ℕ) (answer : Orders (find E) r buffer after) where
  pub none_found : r ≡ None → find E ≡ none
  none_found q = by_answer (find E) refl answer
    where
      by_answer : (o : math.Option (List Pair)) → find E ≡ o → Orders o r buffer after → find E ≡ none
      by_answer none f w = f
      by_answer (some S) f w = let z : ◌≡◌ {A = ℕ} 0 1 = cc in absurd (omega arith)

  pub file_found : (count : ℕ) → r ≡ Some count → IsFile E after count
  file_found count q = by_answer (find E) refl answer
    where
      by_answer : (o : math.Option (List Pair)) → find E ≡ o → Orders o r buffer after → IsFile E after count
      by_answer none f w = let z : ◌≡◌ {A = ℕ} 0 1 = cc in absurd (omega arith)
      by_answer (some S) f w =
          let is : count ≡ length S = cc in
          record {
            order = S;
            found = f;
            count_is = is;
            file_is = ap (take (7 + 2 * count)) w.1 ∙ order_file_taken S count (drop (7 + 2 * length S) buffer) (sym is);
          }

-- the pairs of the file are the order's, and as many as E has
module _ (E : Problem) (after : List ℕ) (count : ℕ) (file : IsFile E after count) where
  pub pairs_are : pairs_of (take (7 + 2 * count) after) count ≡ file.order
  pairs_are = rw (file.file_is, file.count_is, ← count_back file.order) (order_back file.order)

  pub is_order : OrderOf E file.order
  is_order = find_is_order E file.order file.found

  pub as_many : count ≡ size E
  as_many = file.count_is ∙ order_length_lem is_order
