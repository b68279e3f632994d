-- A file of which only so many bytes are read, one more than the largest has: a book or amounts so cut get the reply of the whole file. No
-- field lies past the cut, and a file that is longer has bytes after its last field either way.
use mathlib.Core.Path.{◌≡◌, refl, sym, ◌∙◌, ap}
use mathlib.Core.Logic.{by_cases}
use mathlib.Core.Bool.{Bool, true, false}
use mathlib.Core.List.{List, [], ◌∷◌}
use Prim.Native.Nat.{ℕ, zero, suc, ◌+◌, ◌*◌, ◌-◌, ◌%◌, ◌^◌, ◌≤◌, ◌<◌}
use native.Mathlib.Decide.{dec_lt}
use native.Mathlib.Nat.{mod-lt}
use native.Mathlib.Omega.{arith}
use borrow.Author.Tests.{lt-ltb, le-ltb}
use lib.Count.{ones-le}
use lib.Dec.{ltb, leb, nleb→lt}
use lib.ListN.{length, take, drop}
use lib.Pow.{pow_pos}
use lib.Seq.{length-take-le, take_all, take-nil, get_or-take}
use Rattle.transport.proofs.Laws.Tests.{counted_le}
use Rattle.specification.specs.Reply.{Size}
use Rattle.specification.specs.Bytes.{byte_at, book_mark, amounts_mark, read_opening}
use Rattle.specification.specs.Book.{row_word, row_size, row_cost, cost_in_row, read_costs, read_row, read_rows, read_head, read_book}
use Rattle.specification.specs.Book.{book_version, book_lots, book_calls}
use Rattle.specification.specs.Amounts.{largest_amounts, carries_reserves, amounts_length, read_amounts_of}
use Rattle.specification.specs.Text.{book_most, amounts_most}
use Rattle.specification.proofs.Replies.{by_reply}
use Rattle.specification.proofs.Numbers.{u16_take, u32_take}
use Rattle.specification.proofs.Rows.{row_says}
use Rattle.specification.proofs.Books.{head_says}

-- the front of a list, and what follows it
drop_front : (n k : ℕ) (s : List ℕ) → drop n (take (n + k) s) ≡ take k (drop n s)
drop_front zero k s = let e : 0 + k ≡ k = omega arith in rw e refl
drop_front (suc n) k [] = rw (take-nil {A = ℕ} (suc n + k), take-nil {A = ℕ} k) refl
drop_front (suc n) k (x ∷ s) = let e : suc n + k ≡ suc (n + k) = omega arith in rw e (drop_front n k s)

-- a list of k bytes or more is cut to k
module _ (k : ℕ) (s : List ℕ) where
  cut_short : (c : ℕ) → c ≤ k → ltb (length (take k s)) c ≡ ltb (length s) c
  cut_short c h = by_cases (dec_lt (length s) k)
      (λ less. ap (λ (t : List ℕ). ltb (length t) c) (take_all k s (omega arith)))
      (λ more. le-ltb (length (take k s)) c (omega (arith, length-take-le k s (omega arith))) ∙ sym (le-ltb (length s) c (omega arith)))

  cut_long : (c : ℕ) → c < k → ltb c (length (take k s)) ≡ ltb c (length s)
  cut_long c h = by_cases (dec_lt (length s) k)
      (λ less. ap (λ (t : List ℕ). ltb c (length t)) (take_all k s (omega arith)))
      (λ more. lt-ltb c (length (take k s)) (omega (arith, length-take-le k s (omega arith))) ∙ sym (lt-ltb c (length s) (omega arith)))

  cut_byte : (at : ℕ) → at < k → byte_at (take k s) at ≡ byte_at s at
  cut_byte at h = get_or-take k s at 0 h

  cut_opening : (mark : List ℕ) (newest : ℕ) → 7 ≤ k → read_opening mark newest (take k s) ≡ read_opening mark newest s
  unfolding read_opening
  cut_opening mark newest h = rw (
    cut_short 7 h,
    cut_byte 0 (omega arith),
    cut_byte 1 (omega arith),
    cut_byte 2 (omega arith),
    u16_take k s 3 (omega arith),
  ) refl

-- one row, cut behind the most that a row may have
module _ (k : ℕ) (row : List ℕ) (version lot : ℕ) (long : 4 + 4 * 32 ≤ k) where
  cut_word : row_word (take k row) ≡ row_word row
  cut_word = u32_take k row 0 (omega arith)

  cut_cost : (j : ℕ) → j < 32 → row_cost (take k row) j ≡ row_cost row j
  cut_cost j h =
      let low = ones-le j (row_word row % 2 ^ j) (mod-lt (row_word row) (pow_pos j)) in
      rw cut_word (u32_take k row (cost_in_row row j) (omega arith))

  cut_costs : (left j : ℕ) → j + left ≤ 32 → read_costs (take k row) version lot left j ≡ read_costs row version lot left j
  unfolding read_costs
  cut_costs zero j h = refl
  cut_costs (suc left) j h = rw (cut_cost j (omega arith), cut_word, cut_costs left (suc j) (omega arith)) refl

  -- a word without a bit past the last call has at most 32 costs
  size_within : (calls : ℕ) → calls ≤ 32 → row_word row < 2 ^ calls → row_size row ≤ 4 + 4 * 32
  size_within calls few below = omega (arith, ones-le calls (row_word row) below)

  pub cut_row : (calls : ℕ) → calls ≤ 32 → read_row (take k row) version lot calls ≡ read_row row version lot calls
  unfolding read_row
  cut_row calls few = by_word (leb (2 ^ calls) (row_word row)) refl
    where
      by_word : (b : Bool) → leb (2 ^ calls) (row_word row) ≡ b → read_row (take k row) version lot calls ≡ read_row row version lot calls
      by_word true e = rw (cut_short k row 4 (omega arith), cut_word, e) refl
      by_word false e =
          let size = size_within calls few (nleb→lt (2 ^ calls) (row_word row) (rw e tt)) in
          rw (cut_short k row 4 (omega arith), cut_word, e, cut_short k row (row_size row) (omega arith), cut_costs calls 0 (omega arith)) refl

-- the rows that are left, cut behind the most that they may have
cut_rows : (version calls left lot k : ℕ) (rest : List ℕ) → calls ≤ 32 → (4 + 4 * 32) * left < k
    → read_rows (take k rest) version lot left calls ≡ read_rows rest version lot left calls
unfolding read_rows
cut_rows version calls zero lot k rest few long = rw (cut_long k rest 0 (omega arith)) refl
cut_rows version calls (suc left) lot k rest few long =
    let same = cut_row k rest version lot (omega arith) calls few in
    let word = cut_word k rest version lot (omega arith) in
    by_reply (row_says rest version lot calls)
    (λ _ read e.
    let size = size_within k rest version lot (omega arith) calls few read.word_below in
    let all : k ≡ row_size rest + (k - row_size rest) = omega arith in
    let next : drop (row_size rest) (take k rest) ≡ take (k - row_size rest) (drop (row_size rest) rest) =
    ap (λ (n : ℕ). drop (row_size rest) (take n rest)) all ∙ drop_front (row_size rest) (k - row_size rest) rest in
    rw (same, e, word, next) (cut_rows version calls left (suc lot) (k - row_size rest) (drop (row_size rest) rest) few (omega arith)))
    (λ n vs q e. rw (same, e) refl)

-- a book
cut_head : (s : List ℕ) → read_head (take book_most s) ≡ read_head s
cut_head s = rw (cut_opening book_most s book_mark 2 (omega arith), cut_byte book_most s 5 (omega arith), cut_byte book_most s 6 (omega arith)) refl

pub cut_book : (s : List ℕ) → read_book (take book_most s) ≡ read_book s
unfolding read_book
cut_book s = by_reply (head_says s)
    (λ n (sizes, headed) e.
    rw (
      cut_head s,
      e,
      sizes,
      u16_take book_most s 3 (omega arith),
      drop_front 7 (book_most - 7) s,
      cut_rows (book_version s) (book_calls s) (book_lots s) 0 (book_most - 7) (drop 7 s) headed.calls_within (omega (arith, headed.lots_within)),
    ) refl)
    (λ k vs q e. rw (cut_head s, e) refl)

-- amounts, with n and m of a readable book
pub cut_amounts : (n : Size) (s : List ℕ) → n.lots ≤ 32 → n.calls ≤ 32 → read_amounts_of n (take amounts_most s) ≡ read_amounts_of n s
unfolding read_amounts_of
cut_amounts n s lots calls = by_cases (dec_lt amounts_most (length s))
    (λ more.
    let few : amounts_length n s ≤ largest_amounts = omega (arith, counted_le (carries_reserves s) n.lots) in
    rw (
      cut_opening amounts_most s amounts_mark 2 (omega arith),
      cut_byte amounts_most s 5 (omega arith),
      cut_byte amounts_most s 6 (omega arith),
      u16_take amounts_most s 3 (omega arith),
      cut_short amounts_most s (amounts_length n s) (omega arith),
      cut_long amounts_most s (amounts_length n s) (omega arith),
      lt-ltb (amounts_length n s) (length s) (omega arith),
    ) refl)
    (λ whole. ap (read_amounts_of n) (take_all amounts_most s (omega arith)))
