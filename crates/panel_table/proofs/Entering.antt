-- Laws of filling the table from a book's rows. Of a lot's calls, those that are not in the word of calls still to come are entered: at first
-- these are the calls without slack, where the table has 0, and with each call that is taken out of the word one more is (`Entering`).
use mathlib.Core.Path.{◌≡◌, sym, ◌∙◌, ap, subst⁻¹}
use mathlib.Core.Logic.{by_cases}
use mathlib.Core.Bool.{true, false, true≢false}
use mathlib.Core.List.{List}
use Prim.Native.Nat.{ℕ, suc, ◌+◌, ◌*◌, ◌-◌, ◌≤◌, ◌<◌}
use native.Mathlib.Nat.{add-zero}
use native.Mathlib.Decide.{ℕ_discrete, dec_lt}
use native.Mathlib.Omega.{arith}
use lib.ListN.{length, set, drop, replicate, length-set, get_or-replicate, length-replicate, get_or-eq_default}
use lib.Seq.{get_or-set_same, get_or-set_other}
use Rattle.specification.specs.Bytes.{u32_at}
use Rattle.specification.specs.Costs.{cost_limit, cost_top, lifted_cost}
use Rattle.specification.specs.Book.{bit, row_word, row_size, row_cost, book_version, book_lots, book_calls, row_at, row_start}
use Rattle.specification.proofs.Numbers.{u32_drop}
use Rattle.specification.proofs.Rows.{RowRead}
use Rattle.specification.proofs.Books.{BookRead}
use Rattle.specification.proofs.Starts.{row_is, row_inside}
use Rattle.rows.proofs.Bits.{bit_below}
use Rattle.book.proofs.Readable.{readable_is}
use Rattle.words.specs.Words.{Without}
use Rattle.words.proofs.Sets.{bit_none}
use Rattle.slacks.specs.Slacks.{slack_in, Capped}
use Rattle.slacks.proofs.BySlacks.{capped_zeros, capped_set}
use Rattle.slacks.proofs.Filled.{raised_low, slack_le}
use Rattle.panel_table.specs.Filling.{slack_at, Within, Entered, Filled}

pub entered_none : (book slacks : List ℕ) → slacks ≡ replicate 64 0 → Entered book 0 slacks
entered_none book slacks e = subst⁻¹ (Entered book 0) e record {
  passed = λ i j h hj. absurd (omega arith);
  ahead = λ i j h hi hj. get_or-replicate {A = ℕ} 64 (8 * j + i) 0 0 (omega arith);
  capped = capped_zeros 64;
  long = length-replicate {A = ℕ} 64 0;
}

-- of lot i, the calls that are not in the word are entered; all of the lots before it are, and none of the lots after it
pub record Entering (book : List ℕ) (i calls : ℕ) (slacks : List ℕ) : Type 0 where
  pub its_own : (j : ℕ) → bit calls j ≡ true → bit (row_word (row_at book i)) j ≡ true
  pub out : (j : ℕ) → j < 8 → bit calls j ≡ false → slack_at slacks i j ≡ slack_in book i j
  pub passed : (k j : ℕ) → k < i → j < 8 → slack_at slacks k j ≡ slack_in book k j
  pub ahead : (k j : ℕ) → i < k → k < 8 → j < 8 → slack_at slacks k j ≡ 0
  pub capped : Capped slacks
  pub long : length slacks ≡ 64

module _ {book : List ℕ} {i : ℕ} (within : Within book) (lot_in : i < book_lots book) where
  abbrev word : ℕ
  word = row_word (row_at book i)

  read : BookRead book (readable_is book within.is_readable).0
  read = (readable_is book within.is_readable).1

  row : RowRead (row_at book i) (book_version book) (book_calls book)
  row = read.row i lot_in

  pub lot_few : i < 8
  lot_few = omega (arith, within.lots_few)

  -- the row stands in the book, with its word at its start
  pub row_in : row_start book i + row_size (row_at book i) ≤ length book
  row_in = row_inside read i lot_in

  pub word_is : u32_at book (row_start book i) ≡ word
  word_is = rw (row_is book i) (sym (u32_drop (row_start book i) book 0 ∙ ap (u32_at book) (add-zero (row_start book i))))

  pub entering_none : {slacks : List ℕ} → Entered book i slacks → Entering book i word slacks
  entering_none E = record {
    its_own = λ j e. e;
    out = λ j hj e. E.ahead i j (omega arith) lot_few hj ∙ rw e;
    passed = E.passed;
    ahead = λ k j h hk hj. E.ahead k j (omega arith) hk hj;
    capped = E.capped;
    long = E.long;
  }

  pub entering_all : {slacks : List ℕ} → Entering book i 0 slacks → Entered book (i + 1) slacks
  entering_all {slacks} E = record {
    passed = λ k j h hj. by_cases (ℕ_discrete k i)
        (λ e. rw e (E.out j hj (bit_none j)))
        (λ d. E.passed k j (omega arith) hj);
    ahead = λ k j h hk hj. E.ahead k j (omega arith) hk hj;
    capped = E.capped;
    long = E.long;
  }

  -- a call of the word
  module _ {calls : ℕ} {slacks : List ℕ} (E : Entering book i calls slacks) (j : ℕ) (is_in : bit calls j ≡ true) where
    own : bit word j ≡ true
    own = E.its_own j is_in

    pub call_few : j < 8
    call_few = omega (arith, bit_below word j (book_calls book) own row.word_below, within.calls_few)

    cost_is : row_cost (drop (row_start book i) book) j ≡ row_cost (row_at book i) j
    cost_is = rw (row_is book i)

    pub cost_low : lifted_cost cost_limit (row_cost (drop (row_start book i) book) j) ≤ cost_top
    cost_low = rw cost_is (raised_low row j own)

    -- it is entered and taken out
    pub entering_one : {after : ℕ} → Without calls j after
        → Entering book i after (set slacks (8 * j + i) (suc cost_top - lifted_cost cost_limit (row_cost (drop (row_start book i) book) j)))
    entering_one {after} w = record {
      its_own = λ l e. by_cases (ℕ_discrete l j)
          (λ q. absurd (true≢false (sym e ∙ rw q w.out)))
          (λ d. E.its_own l (sym (w.others l d) ∙ e));
      out = λ l hl e. by_cases (ℕ_discrete l j)
          (λ q. rw q (get_or-set_same slacks (8 * j + i) v 0 inside ∙ v_is))
          (λ d. other i l lot_few (λ q. d (omega arith)) ∙ E.out l hl (sym (w.others l d) ∙ e));
      passed = λ k l h hl. other k l (omega (arith, lot_few)) (λ q. omega (arith, lot_few)) ∙ E.passed k l h hl;
      ahead = λ k l h hk hl. other k l hk (λ q. omega (arith, lot_few)) ∙ E.ahead k l h hk hl;
      capped = capped_set slacks (8 * j + i) v E.capped (omega (arith, v_is, slack_le book i j)) inside;
      long = length-set slacks (8 * j + i) v ∙ E.long;
    }
      where
        v : ℕ
        v = suc cost_top - lifted_cost cost_limit (row_cost (drop (row_start book i) book) j)

        inside : 8 * j + i < length slacks
        inside = omega (arith, E.long, call_few, lot_few)

        v_is : v ≡ slack_in book i j
        v_is = rw (own, cost_is)

        other : (k l : ℕ) → k < 8 → (8 * l + k ≡ 8 * j + i → ⊥) → slack_at (set slacks (8 * j + i) v) k l ≡ slack_at slacks k l
        other k l hk d = get_or-set_other slacks (8 * j + i) (8 * l + k) v 0 d

-- ---- the words beside the table
-- the words of the first lots stand, and after them there is none
pub filled_none : {book slacks eligible : List ℕ} → slacks ≡ replicate 64 0 → eligible ≡ replicate 8 0 → Filled book 0 slacks eligible
filled_none {book} {slacks} {eligible} e e' = subst⁻¹ (Filled book 0 slacks) e' record {
  entered = entered_none book slacks e;
  word = λ i h. absurd (omega arith);
  none = λ i h. by_cases (dec_lt i 8)
      (λ l. get_or-replicate {A = ℕ} 8 i 0 0 l)
      (λ g. get_or-eq_default {A = ℕ} (replicate 8 0) 0 {n = i} (omega (arith, length-replicate {A = ℕ} 8 0)));
  long = length-replicate {A = ℕ} 8 0;
}

pub filled_more : {book slacks eligible slacks' : List ℕ} {i w : ℕ} → Filled book i slacks eligible → i < 8
    → Entered book (i + 1) slacks' → w ≡ row_word (row_at book i) → Filled book (i + 1) slacks' (set eligible i w)
filled_more {book} {slacks} {eligible} {slacks'} {i} {w} f hi entered e = record {
  entered = entered;
  word = λ k h. by_cases (ℕ_discrete k i)
      (λ q. rw q (get_or-set_same eligible i w 0 (omega (arith, f.long)) ∙ e))
      (λ d. get_or-set_other eligible i k w 0 d ∙ f.word k (omega arith));
  none = λ k h. get_or-set_other eligible i k w 0 (λ q. omega arith) ∙ f.none k (omega arith);
  long = length-set eligible i w ∙ f.long;
}
