-- The test of one quadruple by the table of offsets: where three of its pairs are eligible, the book's own costs stand at the offsets, all
-- with one number added, and an offset of 0 says that (k, l) is not eligible. So each answer is the specification's.
use mathlib.Core.Path.{◌≡◌, sym, ◌∙◌}
use mathlib.Core.List.{List, [], ◌∷◌}
use Prim.Native.Nat.{ℕ, ◌+◌, ◌≤◌, ◌<◌}
use native.Mathlib.Omega.{arith}
use Rattle.transport.specs.Problem.{Problem, Eligible}
use Rattle.transport.specs.Greedy.{pair}
use Rattle.transport.proofs.Laws.Tests.{T_true}
use Rattle.specification.specs.Reply.{gives, refuses}
use Rattle.specification.specs.Book.{problem_of}
use Rattle.specification.specs.Check.{check_quadruple}
use Rattle.specification.specs.Requests.{ThreeEligible}
use Rattle.specification.proofs.Quadruples.{quadruple_not_eligible, quadruple_too_high, quadruple_holds}
use Rattle.book.specs.Pairs.{offset_table}
use Rattle.book.specs.Table.{entry, raised_at, CanRead}
use Rattle.book.proofs.Readable.{Read, counts_are}
use Rattle.book.proofs.Tables.{lot_few, call_few, lacking, cost_at, eligible_at, not_eligible_at, offsets_tabled}

module _ {book table : List ℕ} {i j k l : ℕ} (three : ThreeEligible book i j k l) (offsets : table ≡ offset_table book) where
  abbrev P : Problem
  P = problem_of book

  abbrev read : Read book three.readable.0.lots three.readable.0.calls
  read = counts_are book (sym three.readable.1)

  pub all_in : (i < 32) × (j < 32) × (k < 32) × (l < 32)
  all_in = (
    lot_few book read i three.own.0,
    call_few book read j three.own.1,
    lot_few book read k three.by_call.0,
    call_few book read l three.by_lot.1,
  )

  -- any pair of lots and calls of the table can be looked up
  pub can_read : (a b : ℕ) → a < 32 → b < 32 → CanRead book table a b
  can_read a b lot_in call_in = record { tabled = rw offsets (offsets_tabled book read); lot_in = lot_in; call_in = call_in }

  -- an offset of 0
  pub told_not_eligible : entry table k l ≡ 0 → refuses 11 (i ∷ j ∷ k ∷ l ∷ []) ≡ check_quadruple P (pair i j) k l
  told_not_eligible none = quadruple_not_eligible P (pair i j) k l
      (not_eligible_at book read k l all_in.2 all_in.3 (rw offsets at none))

  -- and another: all four pairs are eligible
  module _ {offset : ℕ} (is : offset ≡ entry table k l) (some : offset ≡ 0 → ⊥) where
    other : Eligible P k l
    other = eligible_at book read k l all_in.2 all_in.3 (λ e. some (is ∙ rw offsets e))

    abbrev cost : ℕ → ℕ → ℕ
    cost a b = raised_at book (entry table a b)

    costs_are : (a b : ℕ) → Eligible P a b → cost a b ≡ P.cost a b + lacking book read
    costs_are a b e = rw offsets (cost_at book read a b e)

    pub told_too_high : cost i l + cost k j < cost i j + cost k l → refuses 12 (i ∷ j ∷ k ∷ l ∷ []) ≡ check_quadruple P (pair i j) k l
    told_too_high high = quadruple_too_high P (pair i j) k l (T_true (P.admits k l) other.2)
        (omega (arith, costs_are i j three.own, costs_are k l other, costs_are i l three.by_lot, costs_are k j three.by_call))

    pub told_holds : cost i j + cost k l ≤ cost i l + cost k j → gives tt ≡ check_quadruple P (pair i j) k l
    told_holds low = quadruple_holds P (pair i j) k l (T_true (P.admits k l) other.2)
        (omega (arith, costs_are i j three.own, costs_are k l other, costs_are i l three.by_lot, costs_are k j three.by_call))
