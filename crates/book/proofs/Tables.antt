-- The table of offsets of a readable book. From each entry on the book has four bytes, and the cost there is within the range
-- (`offsets_tabled`); the costs of a lot with all calls stand side by side (`offsets_packed`). The problem that the table states has the
-- book's own eligible pairs and, but for one number that is added to all, their costs (`problem_same`).
use mathlib.Core.Path.{◌≡◌, refl, sym, ap, ◌∙◌, subst}
use mathlib.Core.Logic.{by_cases}
use mathlib.Core.Bool.{Bool, true, false, cond, not}
use mathlib.Core.List.{List}
use Prim.Native.Nat.{ℕ, zero, suc, ◌+◌, ◌*◌, ◌-◌, ◌/◌, ◌%◌, ◌≤◌, ◌<◌}
use native.Mathlib.Nat.{add-zero}
use native.Mathlib.Decide.{ℕ_discrete}
use native.Mathlib.Omega.{arith}
use borrow.Author.Tests.{lt-ltb, ne_eqb}
use lib.Dec.{T, eqb, ltb, lt→ltb}
use lib.ListN.{length, get_or}
use Rattle.transport.specs.Problem.{Eligible}
use Rattle.transport.proofs.Laws.Tests.{T_true, counted_of, counted_says}
use Rattle.transport.proofs.Finder.Same.{Same}
use Rattle.specification.specs.Bytes.{u32_at}
use Rattle.specification.specs.Costs.{cost_limit, cost_top, cost_base, lifted_cost}
use Rattle.specification.specs.Book.{bit, row_word, row_cost, book_version, book_lots, row_at, row_start, problem_of}
use Rattle.specification.proofs.Costs.{raised_is, raised_within}
use Rattle.specification.proofs.Numbers.{u32_drop}
use Rattle.specification.proofs.Flows.{tabulate_at}
use Rattle.specification.proofs.Books.{admitted_inside, cost_allowed}
use Rattle.specification.proofs.Starts.{row_is, row_inside, cost_inside}
use Rattle.rows.specs.Words.{ones_below}
use Rattle.book.specs.Pairs.{has_cost, cost_offset, offset_table}
use Rattle.book.specs.Table.{entry, raised_at, admits_by, problem_by, Tabled, Packed, Worded}
use Rattle.rows.proofs.Bits.{ones_below_none, ones_below_full, bit_of_full}
use Rattle.book.proofs.Readable.{Read}
use Rattle.book.proofs.Offsets.{entry_is, entry_admits, entry_cost}
use Rattle.book.proofs.Filled.{offset_row}

not_zero : (x : ℕ) → not (eqb x 0) ≡ ltb 0 x
not_zero zero = refl
not_zero (suc x) = rw (lt-ltb 0 (suc x) (omega arith), ne_eqb (suc x) 0 (λ e. omega arith))

module _ (book : List ℕ) {n m : ℕ} (read : Read book n m) where
  -- a pair with an offset above 0 is eligible
  pub eligible_at : (i j : ℕ) → i < 32 → j < 32 → (entry (offset_table book) i j ≡ 0 → ⊥) → Eligible (problem_of book) i j
  eligible_at i j hi hj h =
      admitted_inside book i j
      (subst T (entry_admits book i j hi hj read.is_readable) (lt→ltb 0 (entry (offset_table book) i j) (omega arith)))

  -- the book's lots and calls are of the table's
  pub lot_few : (i : ℕ) → i < (problem_of book).lots → i < 32
  unfolding problem_of
  lot_few i h = omega (arith, read.known.lots_within)

  pub call_few : (j : ℕ) → j < (problem_of book).calls → j < 32
  unfolding problem_of
  call_few j h = omega (arith, read.known.calls_within)

  -- what the base lacks of the limit
  pub lacking : ℕ
  lacking = cost_limit - cost_base (book_version book)

  -- at the offset of an eligible pair the book holds its cost
  held_at : (i j : ℕ) → Eligible (problem_of book) i j → u32_at book (entry (offset_table book) i j) ≡ row_cost (row_at book i) j
  held_at i j e =
      entry_cost book i j (lot_few i e.0) (call_few j e.1) (rw read.is_readable (T_true ((problem_of book).admits i j) e.2))

  pub cost_at : (i j : ℕ) → Eligible (problem_of book) i j
      → raised_at book (entry (offset_table book) i j) ≡ (problem_of book).cost i j + lacking
  unfolding problem_of lacking
  cost_at i j e =
      ap (lifted_cost cost_limit) (held_at i j e)
      ∙ raised_is (book_version book) (row_cost (row_at book i) j) (cost_allowed read.known i j e)

  -- a pair with the offset 0 is not eligible
  pub not_eligible_at : (i j : ℕ) → i < 32 → j < 32 → entry (offset_table book) i j ≡ 0 → (problem_of book).admits i j ≡ false
  not_eligible_at i j hi hj e = sym (entry_admits book i j hi hj read.is_readable) ∙ rw e

  offset_inside : (i j : ℕ) (has : Bool) → has_cost book i j ≡ has → cost_offset book i j + 4 ≤ length book
  offset_inside i j false e = rw e (omega (arith, read.known.opened.seven))
  offset_inside i j true e = rw e (cost_inside read.known i j (admitted_inside book i j (rw (rw read.is_readable at e) tt)))

  pub offsets_tabled : Tabled book (offset_table book)
  offsets_tabled = record { within = within; cheap = cheap }
    where
      within : (k : ℕ) → k < 1024 → get_or (offset_table book) k 0 + 4 ≤ length book
      within k h =
          rw (tabulate_at 1024 (λ o. cost_offset book (o / 32) (o % 32)) k h) (offset_inside (k / 32) (k % 32) _ refl)

      cheap : (k : ℕ) → k < 1024 → (get_or (offset_table book) k 0 ≡ 0 → ⊥) → raised_at book (get_or (offset_table book) k 0) ≤ cost_top
      cheap k h stands =
          let at : k ≡ 32 * (k / 32) + k % 32 = omega arith in
          let e = eligible_at (k / 32) (k % 32) (omega arith) (omega arith) (λ z. stands (rw at z)) in
          rw (at, held_at (k / 32) (k % 32) e) (raised_within (book_version book) _ (cost_allowed read.known (k / 32) (k % 32) e))

  -- the offsets of a lot's costs go by its word: where the last of m is that of a cost with m - 1 before it, all m bits are set
  pub offsets_packed : m ≤ 32 → Packed (offset_table book) m
  unfolding problem_of
  offsets_packed few = record { side_by_side = side_by_side }
    where
      side_by_side : (i l : ℕ) → i < 32 → l < m → 0 < entry (offset_table book) i 0
          → entry (offset_table book) i (m - 1) ≡ entry (offset_table book) i 0 + 4 * (m - 1)
          → entry (offset_table book) i l ≡ entry (offset_table book) i 0 + 4 * l
      side_by_side i l hi hl first last = by_cases (ℕ_discrete l (m - 1))
          (λ (e : l ≡ m - 1). rw e last)
          (λ ne. let h : l < m - 1 = omega arith in
          omega (
            arith,
            start_is,
            offset l (omega arith),
            counted_of (bit word l) (at l) (rw (bit_of_full word (m - 1) full l h) tt),
            ones_below_full word (m - 1) full l (omega arith),
          ))
        where
          word : ℕ
          word = row_word (row_at book i)

          at : ℕ → ℕ
          at j = row_start book i + 4 + 4 * ones_below word j

          offset : (j : ℕ) → j < 32 → entry (offset_table book) i j ≡ cond (bit word j) (at j) 0
          offset j hj = entry_is book i j hi hj
              ∙ offset_row book read.is_readable i j (eligible_at i 0 hi (omega arith) (λ z. omega arith)).0

          -- an offset above 0 is that of a set bit
          stands : (j : ℕ) → j < 32 → 0 < entry (offset_table book) i j → entry (offset_table book) i j ≡ at j
          stands j hj h = offset j hj ∙ counted_of (bit word j) (at j) (counted_says (bit word j) (at j) (rw (offset j hj) at h))

          start_is : entry (offset_table book) i 0 ≡ row_start book i + 4
          start_is = omega (arith, stands 0 (omega arith) first, ones_below_none word)

          full : ones_below word (m - 1) ≡ m - 1
          full = omega (arith, start_is, stands (m - 1) (omega arith) (omega (arith, last, first)), last)

  -- the word at which a row starts has the calls that the table has entries for
  pub offsets_worded : (starts : List ℕ) → ((i : ℕ) → i < n → get_or starts i 0 ≡ row_start book i) → Worded book (offset_table book) starts
  unfolding problem_of
  offsets_worded starts starts_are = record { within = within; has = has }
    where
      lot_in : (i j : ℕ) → i < 32 → j < 32 → (entry (offset_table book) i j ≡ 0 → ⊥) → i < book_lots book
      lot_in i j hi hj h = (eligible_at i j hi hj h).0

      start_is : (i j : ℕ) → i < 32 → j < 32 → (entry (offset_table book) i j ≡ 0 → ⊥) → get_or starts i 0 ≡ row_start book i
      start_is i j hi hj h = starts_are i (omega (arith, read.lots_is, lot_in i j hi hj h))

      within : (i j : ℕ) → i < 32 → j < 32 → (entry (offset_table book) i j ≡ 0 → ⊥) → get_or starts i 0 + 4 ≤ length book
      within i j hi hj h = omega (arith, start_is i j hi hj h, row_inside read.known i (lot_in i j hi hj h))

      has : (i j l : ℕ) → i < 32 → j < 32 → l < 32 → (entry (offset_table book) i j ≡ 0 → ⊥)
          → bit (u32_at book (get_or starts i 0)) l ≡ not (eqb (entry (offset_table book) i l) 0)
      has i j l hi hj hl h = rw (start_is i j hi hj h, ← word_is) (go (bit (row_word (row_at book i)) l) refl)
        where
          word_is : row_word (row_at book i) ≡ u32_at book (row_start book i)
          word_is =
              let whole : row_start book i + 0 ≡ row_start book i = omega arith in
              rw (row_is book i) (u32_drop (row_start book i) book 0 ∙ ap (u32_at book) whole)

          entry_at : entry (offset_table book) i l
              ≡ cond (bit (row_word (row_at book i)) l) (row_start book i + 4 + 4 * ones_below (row_word (row_at book i)) l) 0
          entry_at = entry_is book i l hi hl ∙ offset_row book read.is_readable i l (lot_in i j hi hj h)

          go : (b : Bool) → bit (row_word (row_at book i)) l ≡ b → bit (row_word (row_at book i)) l ≡ not (eqb (entry (offset_table book) i l) 0)
          go true b = rw (entry_at, b) (rw (ne_eqb (row_start book i + 4 + 4 * ones_below (row_word (row_at book i)) l) 0 (λ e. omega arith)))
          go false b = rw (entry_at, b)

  pub problem_same : Same (problem_by book (offset_table book) n m) (problem_of book)
  unfolding problem_of
  problem_same =
      record { lots = read.lots_is; calls = read.calls_is; admits = admits; more = 0; more' = lacking; cost = cost }
    where
      lot_in : (i : ℕ) → i < n → i < 32
      lot_in i h = omega (arith, read.lots_is, read.known.lots_within)

      call_in : (j : ℕ) → j < m → j < 32
      call_in j h = omega (arith, read.calls_is, read.known.calls_within)

      admits : (i j : ℕ) → i < n → j < m → admits_by (offset_table book) n m i j ≡ (problem_of book).admits i j
      admits i j hi hj = rw (lt-ltb i n hi, lt-ltb j m hj)
          (not_zero (entry (offset_table book) i j) ∙ entry_admits book i j (lot_in i hi) (call_in j hj) read.is_readable)

      cost : (i j : ℕ) → (i < n) × (j < m) × T (admits_by (offset_table book) n m i j)
          → raised_at book (entry (offset_table book) i j) + 0 ≡ (problem_of book).cost i j + lacking
      cost i j (hi, hj, t) =
          let e : Eligible (problem_of book) i j = (omega (arith, read.lots_is), omega (arith, read.calls_is), subst T (admits i j hi hj) t) in
          add-zero (raised_at book (entry (offset_table book) i j)) ∙ cost_at i j e
