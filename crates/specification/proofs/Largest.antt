-- A readable book of 4,231 bytes: 32 lots, each eligible for all of 32 calls at cost 0.
use mathlib.Core.Path.{◌≡◌, refl, ap, ◌∙◌}
use mathlib.Core.List.{List, [], ◌++◌}
use Prim.Native.Nat.{ℕ, zero, suc, ◌+◌, ◌*◌, ◌-◌, ◌%◌, ◌^◌, ◌≤◌, ◌<◌}
use native.Mathlib.Nat.{mod-lt}
use native.Mathlib.Omega.{arith}
use borrow.Author.Tests.{le-ltb}
use lib.Count.{ones, ones-ones, ones-le}
use lib.Dec.{lit<}
use lib.ListN.{length, replicate, length-append}
use lib.Pow.{pow_pos}
use lib.Seq.{get_or-append-add, drop-append_seam}
use Rattle.specification.specs.Reply.{gives}
use Rattle.specification.specs.Bytes.{byte_at, u16_at, u32_at, read_opening}
use Rattle.specification.specs.Book.{row_word, row_size, read_row, read_rows, read_book}
use Rattle.specification.specs.Examples.{book}
use Rattle.specification.proofs.Each.{Each, none_left, one_more, each_append, each_replicate}
use Rattle.specification.proofs.Rows.{row_passes}

-- a row with 32 costs of 0
abbrev row : List ℕ
row = replicate 4 255 ++ replicate 128 0

unfoldable rows : ℕ → List ℕ
rows zero = []
rows (suc lots) = row ++ rows lots

rows_length : (lots : ℕ) → length (rows lots) ≡ 132 * lots
unfolding rows
rows_length zero = refl
rows_length (suc lots) = omega (arith, length-append row (rows lots), rows_length lots)

-- bytes of 0 in front of others
zeros : (n i : ℕ) (rest : List ℕ) → i < n → byte_at (replicate n 0 ++ rest) i ≡ 0
zeros zero i rest h = absurd (omega arith)
zeros (suc n) zero rest h = refl
zeros (suc n) (suc i) rest h = zeros n i rest (omega arith)

-- it is read, whatever follows
module _ (rest : List ℕ) where
  word : row_word (row ++ rest) ≡ 2 ^ 32 - 1
  unfolding u16_at u32_at
  word = refl

  size : row_size (row ++ rest) ≡ 132
  size = rw (word, ones-ones 32) refl

  zero_at : (at : ℕ) → 4 ≤ at → at < 132 → byte_at (row ++ rest) at ≡ 0
  zero_at at low high =
      let behind : at ≡ 4 + (at - 4) = omega arith in
      ap (byte_at (row ++ rest)) behind ∙ get_or-append-add (replicate 4 255) (replicate 128 0 ++ rest) (at - 4) 0 ∙ zeros 128 (at - 4) rest (omega arith)

  cost : (k : ℕ) → k < 32 → u32_at (row ++ rest) (4 + 4 * k) ≡ 0
  unfolding u16_at u32_at
  cost k h = omega (
    arith,
    zero_at (4 + 4 * k) (omega arith) (omega arith),
    zero_at (4 + 4 * k + 1) (omega arith) (omega arith),
    zero_at (4 + 4 * k + 2) (omega arith) (omega arith),
    zero_at (4 + 4 * k + 2 + 1) (omega arith) (omega arith),
  )

  row_reads : (lot : ℕ) → read_row (row ++ rest) 1 lot 32 ≡ gives tt
  row_reads lot = row_passes lot (record {
    word_whole = omega (arith, length-append row rest);
    word_below = rw word (lit< tt);
    costs_whole = omega (arith, size, length-append row rest);
    costs_within = λ j h set.
        let k : ℕ = ones (row_word (row ++ rest) % 2 ^ j) in
        let few = ones-le j (row_word (row ++ rest) % 2 ^ j) (mod-lt (row_word (row ++ rest)) (pow_pos j)) in
        rw (cost k (omega arith)) refl;
  })

rows_read : (lots lot : ℕ) → read_rows (rows lots) 1 lot lots 32 ≡ gives tt
unfolding rows read_rows
rows_read zero lot = refl
rows_read (suc lots) lot = rw (row_reads (rows lots) lot, size (rows lots), drop-append_seam row (rows lots)) (rows_read lots (suc lot))

pub largest : List ℕ
largest = book 32 32 [] ++ rows 32

-- it is made of bytes
rows_bytes : (lots : ℕ) → Each (λ b. b < 256) (rows lots)
unfolding rows
rows_bytes zero = none_left
rows_bytes (suc lots) = each_append (each_append (each_replicate 4 255 (lit< tt)) (each_replicate 128 0 (lit< tt))) (rows_bytes lots)

pub largest_bytes : Each (λ b. b < 256) largest
unfolding largest
largest_bytes = each_append
    (one_more 67 (lit< tt) (one_more 76 (lit< tt) (one_more 66 (lit< tt) (one_more 1 (lit< tt) (one_more 0 (lit< tt)
    (one_more 32 (lit< tt) (one_more 32 (lit< tt) none_left)))))))
    (rows_bytes 32)

pub largest_length : length largest ≡ 4231
unfolding largest
largest_length = omega (arith, rows_length 32)

pub largest_reads : read_book largest ≡ gives (record { lots = 32; calls = 32 })
unfolding largest read_book read_opening u16_at
largest_reads = rw (le-ltb (length largest) 7 (omega (arith, largest_length)), rows_read 32 0) refl
