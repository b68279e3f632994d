-- Laws of the table of offsets as the lots of a readable book are entered one after another.
use mathlib.Core.Path.{◌≡◌, refl, sym, ◌∙◌}
use mathlib.Core.Bool.{Bool, true, false, cond, and-false}
use mathlib.Core.List.{List}
use mathlib.Core.Logic.{◌⊎◌, inl, inr}
use Prim.Native.Nat.{ℕ, ◌+◌, ◌*◌, ◌/◌, ◌%◌, ◌≤◌, ◌<◌}
use native.Mathlib.Omega.{arith}
use native.Mathlib.Nat.{add_assoc}
use native.Mathlib.Decide.{ℕ_discrete}
use borrow.Author.Tests.{lt-ltb, le-ltb, eq-eqb, ne_eqb}
use lib.Arith.{lt_of_le-ne}
use lib.Dec.{ltb}
use lib.ListN.{length, get_or, replicate, length-replicate, get_or-replicate}
use lib.Seq.{ext_get_or}
use Rattle.specification.specs.Book.{bit, row_word, book_lots, book_calls, row_at, row_start, problem_of}
use Rattle.specification.proofs.Flows.{length_tabulate, tabulate_at}
use Rattle.files.proofs.Parts.{le_or_lt}
use Rattle.rows.specs.Words.{ones_below}
use Rattle.book.specs.Pairs.{readable, cost_offset, offset_table}
use Rattle.book.specs.Table.{with_row, WithRow}
use Rattle.rows.proofs.Bits.{bit_below}
use Rattle.book.proofs.Readable.{readable_is}

-- two lists of 1,024 entries that agree at each
table_is : (table book : List ℕ) → length table ≡ 1024
    → ((k : ℕ) → k < 1024 → get_or table k 0 ≡ cost_offset book (k / 32) (k % 32)) → table ≡ offset_table book
table_is table book l h =
    let f : ℕ → ℕ = λ k. cost_offset book (k / 32) (k % 32) in
    ext_get_or 0 table (offset_table book) (l ∙ sym (length_tabulate 1024 f))
    (λ k g. let b : k < 1024 = omega (arith, l, g) in h k b ∙ sym (tabulate_at 1024 f k b))

-- the lots below i are entered, and no other
pub record Filled (book : List ℕ) (i : ℕ) (table : List ℕ) : Type 0 where
  pub long : length table ≡ 1024
  pub entries : (k : ℕ) → k < 1024 → get_or table k 0 ≡ cond (ltb (k / 32) i) (cost_offset book (k / 32) (k % 32)) 0

pub filled_none : (book : List ℕ) → Filled book 0 (replicate 1024 0)
filled_none book = record {
  long = length-replicate {A = ℕ} 1024 0;
  entries = λ k h. get_or-replicate {A = ℕ} 1024 k 0 0 h ∙ simp (le-ltb (k / 32) 0 (omega arith));
}

module _ (book : List ℕ) (e : readable book ≡ true) where
  -- a lot's offsets go by its word alone, since no bit from m on is set
  pub offset_row : (i j : ℕ) → i < book_lots book → (let word = row_word (row_at book i) in
      cost_offset book i j ≡ cond (bit word j) (row_start book i + 4 + 4 * ones_below word j) 0)
  unfolding problem_of
  offset_row i j h = go (bit (row_word (row_at book i)) j) refl
    where
      go : (b : Bool) → bit (row_word (row_at book i)) j ≡ b → (let word = row_word (row_at book i) in
          cost_offset book i j ≡ cond (bit word j) (row_start book i + 4 + 4 * ones_below word j) 0)
      go true b =
          let below = ((readable_is book e).1.row i h).word_below in
          simp (e, lt-ltb i (book_lots book) h, b, lt-ltb j (book_calls book) (bit_below _ j _ b below), add_assoc)
      go false b = simp (e, lt-ltb i (book_lots book) h, b, and-false)

  pub filled_next : (i : ℕ) (table next : List ℕ) → i < book_lots book → Filled book i table
      → WithRow table (row_word (row_at book i)) i (row_start book i + 4) next → Filled book (i + 1) next
  filled_next i table next h F w = record { long = w.long; entries = λ k g. w.entries k g ∙ go k g (ℕ_discrete (k / 32) i) (le_or_lt (k / 32) i) }
    where
      go : (k : ℕ) → k < 1024 → Dec (k / 32 ≡ i) → (k / 32 ≤ i) ⊎ (i < k / 32)
          → with_row table (row_word (row_at book i)) i (row_start book i + 4) k
          ≡ cond (ltb (k / 32) (i + 1)) (cost_offset book (k / 32) (k % 32)) 0
      go k g (yes q) o =
          simp (eq-eqb (k / 32) i q, lt-ltb (k / 32) (i + 1) (omega arith), F.entries k g, le-ltb (k / 32) i (omega arith))
          (rw q (sym (offset_row i (k % 32) h)))
      go k g (no n) (inl a) =
          simp (ne_eqb (k / 32) i n, lt-ltb (k / 32) (i + 1) (omega arith), F.entries k g, lt-ltb (k / 32) i (lt_of_le-ne a n))
      go k g (no n) (inr a) =
          simp (ne_eqb (k / 32) i n, le-ltb (k / 32) (i + 1) (omega arith), F.entries k g, le-ltb (k / 32) i (omega arith))

  -- once no lot is left, all are entered
  pub filled_all : (i : ℕ) (table : List ℕ) → book_lots book ≤ i → Filled book i table → table ≡ offset_table book
  unfolding problem_of
  filled_all i table h F = table_is table book F.long (λ k g. F.entries k g ∙ go k (le_or_lt i (k / 32)))
    where
      go : (k : ℕ) → (i ≤ k / 32) ⊎ (k / 32 < i)
          → cond (ltb (k / 32) i) (cost_offset book (k / 32) (k % 32)) 0 ≡ cost_offset book (k / 32) (k % 32)
      go k (inl a) = simp (le-ltb (k / 32) i a, e, le-ltb (k / 32) (book_lots book) (omega arith))
      go k (inr a) = simp (lt-ltb (k / 32) i a)
