-- What a table's entry says of a pair.
use Rattle.std.proofs.Common.{◌≡◌, ℕ, ◌+◌, ◌*◌, ◌<◌, ◌≤◌, true, not, ◌&&◌, T, eqb, ltb, List, sym, subst, arith, ltb→lt, T_not, eq-eqb}
use Rattle.transport.proofs.Laws.Tests.{T_true, and_says}
use Rattle.transport.proofs.Finder.Gaps.{Bounded}
use Rattle.specification.specs.Costs.{cost_top}
use Rattle.book.specs.Table.{entry, admits_by, problem_by, Tabled}

-- a pair that the table admits is among its lots and calls and has an offset
pub admitted_in : (table : List ℕ) (n m k l : ℕ) → admits_by table n m k l ≡ true → (k < n) × (l < m) × (entry table k l ≡ 0 → ⊥)
admitted_in table n m k l e =
    let t : T (admits_by table n m k l) = subst T (sym e) tt in
    let in_lots = and_says (ltb k n) (ltb l m && not (eqb (entry table k l) 0)) t in
    let in_calls = and_says (ltb l m) (not (eqb (entry table k l) 0)) in_lots.1 in (
      ltb→lt k n in_lots.0,
      ltb→lt l m in_calls.0,
      λ z. T_not (eqb (entry table k l) 0) in_calls.1 (subst T (sym (eq-eqb _ _ z)) tt),
    )

-- the costs of a table are within the range
pub bounded : (book table : List ℕ) (n m : ℕ) → n ≤ 32 → m ≤ 32 → Tabled book table → Bounded (problem_by book table n m) cost_top
bounded book table n m few few' tabled i j e =
    let inside = admitted_in table n m i j (T_true (admits_by table n m i j) e.2) in
    tabled.cheap (32 * i + j) (omega (arith, e.0, e.1)) inside.2
