-- Laws of filling the table of slacks from a book's rows. The costs of a lot stand behind its word, one for each set bit, so the byte of a
-- cost grows by four with each slack that is entered; clear bits are passed over, since the table is 0 there (`Reached`). With all lots
-- entered the table has the book's slacks (`slack_here`) and is as it is to be (`filled_slacks`, `filled_words`).
use Rattle.std.proofs.Common.{◌≡◌, ℕ, suc, ◌+◌, ◌-◌, ◌*◌, ◌/◌, ◌%◌, ◌^◌, ◌<◌, ◌≤◌, true, false, List, ◌++◌, length, get_or, take, drop, set, replicate, sym, ap, ◌∙◌, true≢false, lt_of_lt_of_le, mod-eq_of_lt, arith, length-append, length-drop, length-set, get_or-set_other, get_or-set_same, pow_mono, rules, below_more}
use mathlib.Core.Logic.{by_cases}
use native.Mathlib.Decide.{dec_lt}
use lib.Count.{ones}
use lib.ListN.{length-replicate}
use Rattle.std.proofs.lemmas.List.{length-take-le, get_or_append_left, get_or-append_right, get_or-drop}
use Rattle.specification.specs.Bytes.{u32_at}
use Rattle.specification.specs.Costs.{cost_top}
use Rattle.specification.specs.Book.{bit, row_word, row_cost, book_version, book_lots, book_calls, row_at, row_start, cost_start}
use Rattle.specification.proofs.Numbers.{u32_drop}
use Rattle.specification.proofs.Rows.{RowRead}
use Rattle.specification.proofs.Books.{book_length}
use Rattle.specification.proofs.Starts.{row_is, row_inside, start_next, cost_held}
use Rattle.rows.specs.Words.{SetFrom}
use Rattle.book.specs.Table.{entry, raised_at}
use Rattle.rows.proofs.Bits.{ones_below_none, ones_below_set, ones_below_clear, ones_below_all, bit_past, bit_below}
use Rattle.book.proofs.Readable.{Read, read_of}
use Rattle.words.proofs.Sets.{bit_none}
use Rattle.slacks.specs.Slacks.{slack_in, Slacks, Eligible}
use Rattle.slacks.specs.Filling.{Filled, Reached}
use Rattle.slacks.proofs.BySlacks.{zeros_at}
use Rattle.slacks.proofs.Filled.{row_known, raised_low, slack_le, set_remains}

-- ---- a list filled from the front
module _ {Holds : ℕ → ℕ → Type 0} {before : List ℕ} where
  pub filled_none : {after : List ℕ} → after ≡ before → Filled Holds 0 before after
  filled_none e = record { passed = λ y h. absurd (omega arith); ahead = λ y h. rw e; long = rw e }

  module _ {x : ℕ} {after : List ℕ} (f : Filled Holds x before after) where
    pub filled_more : (v : ℕ) → x < length before → Holds x v → Filled Holds (x + 1) before (set after x v)
    filled_more v h holds = record {
      passed = below_more _ _
          (λ y l. rw (get_or-set_other after x y v 0 (λ e. omega arith)) (f.passed y l))
          (rw (get_or-set_same after x v 0 (omega (arith, f.long))) holds);
      ahead = λ y l. get_or-set_other after x y v 0 (λ e. omega arith) ∙ f.ahead y (omega arith);
      long = length-set after x v ∙ f.long;
    }

  -- a list whose first entries were filled
  pub filled_front : {n : ℕ} {front : List ℕ} → n ≤ length before → Filled Holds n (take n before) front → Filled Holds n before (front ++ drop n before)
  filled_front {n} {front} few f =
      let long : length front ≡ n = f.long ∙ length-take-le n before few in
      record {
        passed = λ y l. rw (get_or_append_left front (drop n before) 0 y (omega arith)) (f.passed y l);
        ahead = λ y h. get_or-append_right front (drop n before) n y 0 long h ∙ get_or-drop n before (y - n) 0
            ∙ ap (λ x. get_or before x 0) (omega arith);
        long = omega (arith, long, length-append front (drop n before), length-drop n before);
      }

-- the number of a pair has the lot and the call
numbered : (i j : ℕ) → j < 32 → ((32 * i + j) / 32 ≡ i) × ((32 * i + j) % 32 ≡ j)
numbered i j h = (omega arith, omega arith)

-- ---- one lot
-- the pair has a cost, and the table room for its slack
pub record AtCost (book : List ℕ) (i j next : ℕ) (slacks : List ℕ) : Type 0 where
  pub fits : next + 4 ≤ length book
  pub short : next + 4 ≤ 4231
  pub inside : 32 * i + j < 1024
  pub low : raised_at book next ≤ cost_top
  pub entered : Reached book i (j + 1) (next + 4) (set slacks (32 * i + j) (suc cost_top - raised_at book next))

-- its word stands before its first cost
pub word_is : {book slacks : List ℕ} {i : ℕ} (at : ℕ) → Reached book i 0 (at + 4) slacks → u32_at book at ≡ row_word (row_at book i)
word_is {book} {slacks} {i} at r =
    let e : at ≡ row_start book i + 0 = omega (arith, r.next_is, ones_below_none (row_word (row_at book i))) in
    rw (e, row_is book i) (sym (u32_drop (row_start book i) book 0))

module _ {book : List ℕ} {i j next : ℕ} {slacks : List ℕ} (r : Reached book i j next slacks) (lot_in : i < book_lots book) where
  abbrev word : ℕ
  word = row_word (row_at book i)

  abbrev read : Read book (book_lots book) (book_calls book)
  read = read_of book r.is_readable

  row : RowRead (row_at book i) (book_version book) (book_calls book)
  row = read.known.row i lot_in

  -- there is room for the lot, and the costs reached stand in the book
  pub lot_within : (i < 32) × (book_calls book ≤ 32) × (next ≤ length book) × (length book ≤ 4231)
  lot_within = (
    omega (arith, read.known.lots_within),
    read.known.calls_within,
    omega (arith, r.next_is, row_inside read.known i lot_in, ones_below_all word j),
    book_length read.known,
  )

  -- a set bit has its cost
  pub at_cost : bit word j ≡ true → AtCost book i j next slacks
  at_cost set_here =
      let known = lot_within in
      let few : j < 32 = omega (arith, bit_below word j (book_calls book) set_here row.word_below) in
      let grown = ones_below_set word j set_here in
      let fits : next + 4 ≤ length book = omega (arith, r.next_is, row_inside read.known i lot_in, ones_below_all word (j + 1)) in
      let held : u32_at book next ≡ row_cost (row_at book i) j = rw r.next_is (cost_held book i j) in
      let (q, s) = numbered i j few in
      let up : 32 * i + j + 1 ≡ 32 * i + (j + 1) = omega arith in
      let more = rw up at (filled_more r.entered (suc cost_top - raised_at book next)
      (omega (arith, length-replicate {A = ℕ} 1024 0)) (rw (q, s, held, set_here))) in
      let next_is : next + 4 ≡ cost_start book i (j + 1) = omega (arith, r.next_is) in
      record { fits = fits; short = omega arith; inside = omega arith; low = rw held (raised_low row j set_here); entered = search rules }

  -- clear bits have none
  passed_over : (l : ℕ) → j ≤ l → l ≤ 32 → ((k : ℕ) → j ≤ k → k < l → bit word k ≡ false)
      → Filled (λ x slack. slack ≡ slack_in book (x / 32) (x % 32)) (32 * i + l) (replicate 1024 0) slacks
  passed_over l le few clear = record {
    passed = λ y h. by_cases (dec_lt y (32 * i + j)) (r.entered.passed y) (λ ge.
        let q : y / 32 ≡ i = omega arith in
        rw (r.entered.ahead y (omega arith), zeros_at 1024 y, q, clear (y % 32) (omega arith) (omega arith)));
    ahead = λ y h. r.entered.ahead y (omega arith);
    long = r.entered.long;
  }

  -- up to the next set bit
  pub reached_to : {l : ℕ} → SetFrom word j l → Reached book i l next slacks
  reached_to {l} from =
      let le = from.not_below r.bounded in
      let up : j + (l - j) ≡ l = omega arith in
      let same = rw up at (ones_below_clear word j (l - j) (λ k a b. from.clear k a (omega arith))) in
      let next_is : next ≡ cost_start book i l = omega (arith, r.next_is) in
      let entered = passed_over l le from.within from.clear in
      search rules

  -- with all calls passed, `next` is where the next row starts
  pub reached_all : book_calls book ≤ j → Reached book (i + 1) 0 (next + 4) slacks
  reached_all h =
      let last : 32 * i + 32 ≡ 32 * (i + 1) + 0 = omega arith in
      let below : (k : ℕ) → j ≤ k → word < 2 ^ k = λ k l. lt_of_lt_of_le row.word_below (pow_mono (omega arith)) in
      let whole = ap ones (mod-eq_of_lt (below j (omega arith))) in
      let next_is : next + 4 ≡ cost_start book (i + 1) 0 = omega (arith, r.next_is, start_next book i, ones_below_none (row_word (row_at book (i + 1)))) in
      let entered = rw last at (passed_over 32 r.bounded (omega arith) (λ k l l'. bit_past word k (below k l))) in
      search rules

-- ---- all lots
module _ {book : List ℕ} {n m next : ℕ} {slacks : List ℕ} (r : Read book n m) (all : Reached book n 0 next slacks) where
  slack_at_lem : (i j : ℕ) → i < n → j < 32 → entry slacks i j ≡ slack_in book i j
  slack_at_lem i j hi hj = let (q, s) = numbered i j hj in rw (q, s) at (all.entered.passed (32 * i + j) (omega arith))

  pub slack_here : (i j : ℕ) → i < n → j < m → entry slacks i j ≡ slack_in book i j
  slack_here i j hi hj = slack_at_lem i j hi (omega (arith, r.calls_is, r.known.calls_within))

  pub filled_slacks : Slacks slacks n m
  filled_slacks = record {
    lots_few = omega (arith, r.lots_is, r.known.lots_within);
    calls_few = omega (arith, r.calls_is, r.known.calls_within);
    capped = λ x. by_cases (dec_lt x (32 * n))
        (λ h. omega (arith, all.entered.passed x (omega arith), slack_le book (x / 32) (x % 32)))
        (λ h. omega (arith, all.entered.ahead x (omega arith), zeros_at 1024 x));
    beyond = λ i j hi hm hj. slack_at_lem i j hi hj ∙ rw (bit_past (row_word (row_at book i)) j (lt_of_lt_of_le (row_known r i hi).word_below (pow_mono (omega (arith, r.calls_is)))));
    long = all.entered.long ∙ length-replicate {A = ℕ} 1024 0;
  }

  -- the words are those of the book's rows
  pub filled_words : {words : List ℕ} → Filled (λ i word. word ≡ row_word (row_at book i)) n (replicate 32 0) words → Eligible slacks n m words
  filled_words {words} f = record {
    each = λ i j hi hj. rw (f.passed i hi) (set_remains r (entry slacks) slack_here i j hi hj);
    inside = λ i j t. by_cases (dec_lt i n)
        (λ hi. (hi, omega (arith, r.calls_is, bit_below (row_word (row_at book i)) j (book_calls book) (rw (f.passed i hi) at t) (row_known r i hi).word_below)))
        (λ h. absurd (true≢false (sym t ∙ rw (f.ahead i (omega arith), zeros_at 32 i) (bit_none j))));
    long = f.long ∙ length-replicate {A = ℕ} 32 0;
  }
