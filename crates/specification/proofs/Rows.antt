-- What reading a file's opening and one row of a book say, each refusal where those before it in the stated order do not apply.
use mathlib.Core.Path.{◌≡◌, sym, ◌∙◌, subst}
use mathlib.Core.Logic.{⊎_elim}
use mathlib.Core.Bool.{Bool, true, false, not, ◌&&◌, true≢false}
use mathlib.Core.List.{List, [], ◌∷◌}
use Prim.Native.Nat.{ℕ, zero, suc, ◌+◌, ◌^◌, ◌≤◌, ◌<◌}
use native.Mathlib.Omega.{arith}
use lib.Dec.{T, ltb, leb, ltb→lt, nltb→le, leb→le, nleb→lt, T_not}
use lib.ListN.{length}
use lib.Pow.{pow_mono}
use Rattle.transport.proofs.Laws.Tests.{T_true, T_false, and_says, below_suc}
use Rattle.specification.specs.Reply.{gives}
use Rattle.specification.specs.Bytes.{marked, version_outside, read_opening}
use Rattle.specification.specs.Costs.{cost_outside}
use Rattle.specification.specs.Book.{bit, row_word, row_size, row_cost, read_costs, read_row}
use Rattle.specification.proofs.Replies.{Says, giving, passes_exactly, gives_less, says_unless, says_if, test_of_twice_not}
use Rattle.specification.proofs.Bits.{bit_le, bit_from}

-- the seven bytes that open a file
pub record Opened (mark : List ℕ) (newest : ℕ) (s : List ℕ) : Type 0 where
  pub seven : 7 ≤ length s
  pub mark_stands : T (marked mark s)
  pub version_stands : T (not (version_outside newest s))

-- 1, 2 and 3: what each says, those before it not applying
pub data OpeningRefused (mark : List ℕ) (newest : ℕ) (s : List ℕ) : ℕ → List ℕ → Type 0 where
  under_seven : length s < 7 → OpeningRefused mark newest s 1 []
  mark_differs : 7 ≤ length s → (T (marked mark s) → ⊥) → OpeningRefused mark newest s 2 []
  other_version : 7 ≤ length s → T (marked mark s) → T (version_outside newest s) → OpeningRefused mark newest s 3 []

pub opening_says : (mark : List ℕ) (newest : ℕ) (s : List ℕ)
    → Says (λ _. Opened mark newest s) (OpeningRefused mark newest s) (read_opening mark newest s)
unfolding read_opening
opening_says mark newest s =
    says_unless (ltb (length s) 7) 1 _ _ (λ t. under_seven (ltb→lt _ _ t)) (λ seven.
    says_unless (not (marked mark s)) 2 _ _ (λ t. mark_differs (nltb→le _ _ seven) (T_not (marked mark s) t)) (λ stands.
    let mark_stands = test_of_twice_not (marked mark s) stands in
    let long = nltb→le (length s) 7 seven in
    says_if (version_outside newest s) 3 _ (other_version long mark_stands) (λ stands. record {
      seven = long;
      mark_stands = mark_stands;
      version_stands = stands;
    })))

pub opened_not_refused : {mark : List ℕ} {newest : ℕ} {s : List ℕ} {k : ℕ} {vs : List ℕ} → Opened mark newest s
    → OpeningRefused mark newest s k vs → ⊥
opened_not_refused opened (under_seven h) = omega (arith, opened.seven)
opened_not_refused opened (mark_differs h differs) = differs opened.mark_stands
opened_not_refused {newest = newest} {s = s} opened (other_version h stands other) =
    T_not (version_outside newest s) opened.version_stands other

-- the costs of the calls below j are within the range
abbrev CostsWithin : List ℕ → ℕ → ℕ → Type 0
CostsWithin row version j = (m : ℕ) → m < j → T (bit (row_word row) m) → cost_outside version (row_cost row m) ≡ false

-- what one row says
pub record RowRead (row : List ℕ) (version calls : ℕ) : Type 0 where
  pub word_whole : 4 ≤ length row
  pub word_below : row_word row < 2 ^ calls
  pub costs_whole : row_size row ≤ length row
  pub costs_within : (j : ℕ) → j < calls → T (bit (row_word row) j) → cost_outside version (row_cost row j) ≡ false

-- 6 for the word, 5, 6 for the costs, and 7, each where those before it do not apply
pub data RowRefused (row : List ℕ) (version lot calls : ℕ) : ℕ → List ℕ → Type 0 where
  word_cut : length row < 4 → RowRefused row version lot calls 6 []
  bit_outside : {j : ℕ} → 4 ≤ length row → calls ≤ j → T (bit (row_word row) j) → RowRefused row version lot calls 5 (lot ∷ [])
  costs_cut : 4 ≤ length row → row_word row < 2 ^ calls → length row < row_size row → RowRefused row version lot calls 6 []
  cost_too_high : {j : ℕ} → row_word row < 2 ^ calls → row_size row ≤ length row → CostsWithin row version j
      → j < calls → T (bit (row_word row) j) → cost_outside version (row_cost row j) ≡ true → RowRefused row version lot calls 7 (lot ∷ j ∷ [])

module _ (row : List ℕ) (version lot calls : ℕ) (below : row_word row < 2 ^ calls) (whole : row_size row ≤ length row) where
  costs_say : (left j : ℕ) → j + left ≡ calls → CostsWithin row version j
      → Says (λ _. CostsWithin row version calls) (RowRefused row version lot calls) (read_costs row version lot left j)
  unfolding read_costs
  costs_say zero j e lower =
      let last : j ≡ calls = omega arith in
      giving (subst (CostsWithin row version) last lower)
  costs_say (suc left) j e lower =
      let set : Bool = bit (row_word row) j in
      let high : Bool = cost_outside version (row_cost row j) in
      says_unless (set && high) 7 _ _
      (λ t. let (s, h) = and_says set high t in cost_too_high below whole lower (omega arith) s (T_true high h)) (λ within.
      costs_say left (suc j) (omega arith) (λ m h s. ⊎_elim (λ (same : m ≡ j). rw same (low set within (rw (← same) s)))
      (λ before. lower m before s) (below_suc h)))
    where
      low : (b : Bool) → T (not (b && cost_outside version (row_cost row j))) → T b → cost_outside version (row_cost row j) ≡ false
      low true within set = T_false (cost_outside version (row_cost row j)) (T_not (cost_outside version (row_cost row j)) within)
      low false within set = absurd set

pub row_says : (row : List ℕ) (version lot calls : ℕ)
    → Says (λ _. RowRead row version calls) (RowRefused row version lot calls) (read_row row version lot calls)
unfolding read_row
row_says row version lot calls =
    says_unless (ltb (length row) 4) 6 _ _ (λ t. word_cut (ltb→lt _ _ t)) (λ word.
    says_unless (leb (2 ^ calls) (row_word row)) 5 _ _
    (λ t. let (j, outside, set) = bit_from calls (row_word row) (leb→le _ _ t) in bit_outside (nltb→le _ _ word) outside set) (λ below.
    let no_bit = nleb→lt (2 ^ calls) (row_word row) below in
    says_unless (ltb (length row) (row_size row)) 6 _ _ (λ t. costs_cut (nltb→le _ _ word) no_bit (ltb→lt _ _ t)) (λ costs.
    let none_before : CostsWithin row version 0 = λ m none. absurd (omega arith) in
    gives_less (costs_say row version lot calls no_bit (nltb→le _ _ costs) calls 0 (omega arith) none_before) (λ _ within. record {
      word_whole = nltb→le _ _ word;
      word_below = no_bit;
      costs_whole = nltb→le _ _ costs;
      costs_within = within;
    }))))

pub row_read_not_refused : {row : List ℕ} {version lot calls k : ℕ} {vs : List ℕ} → RowRead row version calls
    → RowRefused row version lot calls k vs → ⊥
row_read_not_refused read (word_cut h) = omega (arith, read.word_whole)
row_read_not_refused {row} read (bit_outside {j} h outside set) =
    omega (arith, read.word_below, pow_mono outside, bit_le (row_word row) j set)
row_read_not_refused read (costs_cut h below short) = omega (arith, read.costs_whole)
row_read_not_refused read (cost_too_high {j} below whole lower h set high) =
    true≢false (sym high ∙ read.costs_within j h set)

-- a row that says what a read one says passes
pub row_passes : {row : List ℕ} {version calls : ℕ} (lot : ℕ) → RowRead row version calls → read_row row version lot calls ≡ gives tt
row_passes {row} {version} {calls} lot read = (passes_exactly (row_says row version lot calls) (λ read k vs. row_read_not_refused read)).1 read
