-- Reading a file is refused exactly by its causes, by the first that applies.
use mathlib.Core.Path.{◌≡◌, refl}
use mathlib.Core.Logic.Iff
use mathlib.Core.Logic.{◌⊎◌, inl, inr, ⊎_elim, by_cases, ◌↔◌}
use mathlib.Core.Bool.{Bool, true, false, not, ◌&&◌, ◌||◌}
use mathlib.Core.List.{List, [], ◌∷◌}
use Prim.Native.Nat.{ℕ, zero, suc, ◌+◌, ◌^◌, ◌≤◌, ◌<◌}
use native.Mathlib.Omega.{arith}
use lib.Dec.{T, ltb, leb, eqb, ltb→lt, lt→ltb, leb→le, le→leb, eqb→eq, eqb_refl, T_not, not_T}
use lib.ListN.{length, take, drop}
use lib.Pow.{pow_mono}
use Rattle.transport.specs.Finder.{every}
use Rattle.transport.proofs.Laws.Tests.{T?, T_true, T_false, and_says, and_of, or_says, or_of_left, or_of_right}
use Rattle.specification.specs.Reply.{Reply, gives, refuses, ◌>>=◌, refuse_if, Size}
use Rattle.specification.specs.Bytes.{byte_at, u16_at, marked, version_outside, read_opening}
use Rattle.specification.specs.Costs.{cost_outside, held_cost, Allows}
use Rattle.specification.specs.Book.{bit, row_word, row_size, row_cost, read_costs, read_row, read_rows, book_version, book_lots, book_calls}
use Rattle.specification.specs.Book.{count_outside, read_head, read_book, row_at}
use Rattle.specification.specs.Amounts.{amount_limit, amount_at, amounts_length, reserve_at, read_amounts_of, read_amounts}
use Rattle.specification.specs.Check.{in_turn}
use Rattle.specification.specs.Refused.{opening_causes, head_causes, row_causes, book_causes, amounts_causes}
use Rattle.specification.proofs.Replies.{said_of_given}
use Rattle.specification.proofs.Bits.{bit_le, bit_from}
use Rattle.specification.proofs.Costs.{cost_range, range_not_outside}
use Rattle.specification.proofs.Books.{head_says, book_read}
use Rattle.specification.proofs.AmountsFiles.{one_above, none_above}
use Rattle.specification.proofs.Causes.{Exactly, given_none, exactly_if, exactly_then, exactly_gives, exactly_turns}

-- tests, and what they say
pub lt_iff : (m n : ℕ) → T (ltb m n) ↔ (m < n)
lt_iff m n = (ltb→lt m n, lt→ltb m n)

pub eq_iff : (m n : ℕ) → T (eqb m n) ↔ (m ≡ n)
eq_iff m n = (eqb→eq m n, λ e. rw e (eqb_refl n))

pub or_iff : {A B : Type 0} (a b : Bool) → T a ↔ A → T b ↔ B → T (a || b) ↔ (A ⊎ B)
or_iff a b left right = (
  λ t. ⊎_elim (λ l. inl (left.0 l)) (λ r. inr (right.0 r)) (or_says a b t),
  ⊎_elim (λ l. or_of_left a b (left.1 l)) (λ r. or_of_right a b (right.1 r)),
)

pub and_iff : {A B : Type 0} (a b : Bool) → T a ↔ A → T b ↔ B → T (a && b) ↔ (A × B)
and_iff a b left right = (λ t. let (l, r) = and_says a b t in (left.0 l, right.0 r), λ (l, r). and_of a b (left.1 l) (right.1 r))

pub not_iff : {A : Type 0} (b : Bool) → T b ↔ A → T (not b) ↔ (A → ⊥)
not_iff b means = (λ t h. T_not b t (means.1 h), λ never. not_T b (λ t. never (means.0 t)))

-- the letters of a mark, one by one
marked_iff : (a b c : ℕ) (s : List ℕ) → 3 ≤ length s → T (marked (a ∷ b ∷ c ∷ []) s) ↔ (take 3 s ≡ a ∷ b ∷ c ∷ [])
marked_iff a b c [] long = absurd (omega arith)
marked_iff a b c (x ∷ []) long = absurd (omega arith)
marked_iff a b c (x ∷ y ∷ []) long = absurd (omega arith)
marked_iff a b c (x ∷ y ∷ z ∷ s) long = Iff.trans
    (and_iff (eqb x a) (eqb y b && eqb z c) (eq_iff x a) (and_iff (eqb y b) (eqb z c) (eq_iff y b) (eq_iff z c)))
    (λ (first, (second, third)). rw (first, second, third) refl, λ e. (cc, (cc, cc)))

pub exactly_opening : (a b c newest : ℕ) (s : List ℕ)
    → Exactly (read_opening (a ∷ b ∷ c ∷ []) newest s) (opening_causes (a ∷ b ∷ c ∷ []) newest s)
unfolding read_opening
exactly_opening a b c newest s =
    let mark : List ℕ = a ∷ b ∷ c ∷ [] in
    let under_seven = exactly_if (ltb (length s) 7) 1 [] (lt_iff (length s) 7) in
    exactly_then _ _ _ under_seven (λ _ given.
    let long : (length s < 7 → ⊥) = λ short. given_none under_seven given 1 [] (refl, refl, short) in
    exactly_then _ _ _ (exactly_if (not (marked mark s)) 2 [] (not_iff (marked mark s) (marked_iff a b c s (omega (arith, long))))) (λ _ _.
    exactly_if (version_outside newest s) 3 [] (or_iff (eqb (u16_at s 3) 0) (ltb newest (u16_at s 3)) (eq_iff (u16_at s 3) 0) (lt_iff newest (u16_at s 3)))))

pub exactly_head : (book : List ℕ) → Exactly (read_head book) (head_causes book)
exactly_head book =
    let many_lots : Bool = count_outside (book_lots book) in
    let many_calls : Bool = count_outside (book_calls book) in
    exactly_then _ _ _ (exactly_opening 67 76 66 2 book) (λ _ _.
    exactly_gives (refuse_if (many_lots || many_calls) 4 []) _
    (exactly_if (many_lots || many_calls) 4 [] (or_iff many_lots many_calls (lt_iff 32 (book_lots book)) (lt_iff 32 (book_calls book)))))

-- a row: its costs in turn
costs_turns : (row : List ℕ) (version lot left j : ℕ)
    → read_costs row version lot left j ≡ in_turn left j (λ j. refuse_if (bit (row_word row) j && cost_outside version (row_cost row j)) 7 (lot ∷ j ∷ []))
unfolding read_costs in_turn
costs_turns row version lot zero j = refl
costs_turns row version lot (suc left) j = rw (costs_turns row version lot left (suc j)) refl

outside_iff : (version held : ℕ) → T (cost_outside version held) ↔ (Allows version (held_cost version held) → ⊥)
outside_iff version held = (
  λ t allows. range_not_outside version held allows (T_true (cost_outside version held) t),
  λ never. by_cases (T? (cost_outside version held)) (λ t. t) (λ no. absurd (never (cost_range version held (T_false (cost_outside version held) no)))),
)

bit_iff : (word calls : ℕ) → T (leb (2 ^ calls) word) ↔ ((j : ℕ) × (calls ≤ j) × T (bit word j))
bit_iff word calls = (
  λ t. let (j, outside, set) = bit_from calls word (leb→le _ _ t) in (j, outside, set),
  λ (j, outside, set). le→leb (2 ^ calls) word (omega (arith, pow_mono outside, bit_le word j set)),
)

exactly_row : (book : List ℕ) (i : ℕ) → Exactly (read_row (row_at book i) (book_version book) i (book_calls book)) (row_causes book i)
unfolding read_row
exactly_row book i =
    let row : List ℕ = row_at book i in
    let version : ℕ = book_version book in
    exactly_then _ _ _ (exactly_if (ltb (length row) 4) 6 [] (lt_iff (length row) 4)) (λ _ _.
    exactly_then _ _ _ (exactly_if (leb (2 ^ book_calls book) (row_word row)) 5 (i ∷ []) (bit_iff (row_word row) (book_calls book))) (λ _ _.
    exactly_then _ _ _ (exactly_if (ltb (length row) (row_size row)) 6 [] (lt_iff (length row) (row_size row))) (λ _ _.
    rw (costs_turns row version i (book_calls book) 0) (exactly_turns _ _ (book_calls book) (λ j h.
    let set : Bool = bit (row_word row) j in
    let high : Bool = cost_outside version (row_cost row j) in
    exactly_if (set && high) 7 (i ∷ j ∷ []) (and_iff set high ((λ t. t), (λ t. t)) (outside_iff version (row_cost row j))))))))

-- a book: its rows in turn
past_step : (r rows turns : Reply (Unit {0})) (f : Unit {0} → Reply (Unit {0})) → rows ≡ (turns >>= f)
    → (r >>= λ _. rows) ≡ ((r >>= λ _. turns) >>= f)
past_step (gives u) rows turns f e = e
past_step (refuses k vs) rows turns f e = refl

rows_turns : (book : List ℕ) (version calls left lot : ℕ) → read_rows (row_at book lot) version lot left calls
    ≡ (in_turn left lot (λ i. read_row (row_at book i) version i calls) >>= λ _. refuse_if (ltb 0 (length (row_at book (lot + left)))) 8 [])
unfolding read_rows row_at in_turn
rows_turns book version calls zero lot = let e : lot + 0 ≡ lot = omega arith in rw e refl
rows_turns book version calls (suc left) lot =
    let last : lot + suc left ≡ suc lot + left = omega arith in
    rw last (past_step (read_row (row_at book lot) version lot calls) _ _ _ (rows_turns book version calls left (suc lot)))

rows_all : (book : List ℕ) (version calls : ℕ) → read_rows (drop 7 book) version 0 (book_lots book) calls
    ≡ (in_turn (book_lots book) 0 (λ i. read_row (row_at book i) version i calls) >>= λ _. refuse_if (ltb 0 (length (row_at book (book_lots book)))) 8 [])
unfolding row_at
rows_all book version calls =
    let e : 0 + book_lots book ≡ book_lots book = omega arith in
    rw e at (rows_turns book version calls (book_lots book) 0)

pub exactly_book : (book : List ℕ) → Exactly (read_book book) (book_causes book)
unfolding read_book
exactly_book book =
    exactly_then _ _ _ (exactly_head book) (λ n e.
    rw ((said_of_given (head_says book) n e).0, rows_all book (book_version book) (book_calls book)) (exactly_gives _ _
    (exactly_then _ _ _ (exactly_turns _ _ (book_lots book) (λ i h. exactly_row book i)) (λ _ _.
    exactly_if (ltb 0 (length (row_at book (book_lots book)))) 8 [] (lt_iff 0 (length (row_at book (book_lots book))))))))

-- amounts
above_iff : (n : ℕ) (f g : ℕ → ℕ) → T (not (every n (λ k. leb (f k) (g k)))) ↔ ((k : ℕ) × (k < n) × (g k < f k))
above_iff n f g = (
  one_above n f g,
  λ (k, h, above). not_T (every n (λ k. leb (f k) (g k))) (λ all. omega (arith, none_above n f g (twice_not (every n (λ k. leb (f k) (g k))) all) k h)),
)
  where
    twice_not : (b : Bool) → T b → T (not (not b))
    twice_not true t = tt
    twice_not false t = t

pub exactly_amounts : (book s : List ℕ) → Exactly (read_amounts book s) (amounts_causes book s)
unfolding read_amounts read_amounts_of
exactly_amounts book s =
    let n : Size = record { lots = book_lots book; calls = book_calls book } in
    let (same_lots, same_calls) : Bool × Bool = (eqb (byte_at s 5) n.lots, eqb (byte_at s 6) n.calls) in
    exactly_then _ _ _ (exactly_book book) (λ m e.
    rw (book_read book m e).sizes
    (exactly_then _ _ _ (exactly_opening 67 76 65 2 s) (λ _ _.
    exactly_then _ _ _ (exactly_if (not (same_lots && same_calls)) 15 []
    (not_iff (same_lots && same_calls) (and_iff same_lots same_calls (eq_iff (byte_at s 5) n.lots) (eq_iff (byte_at s 6) n.calls)))) (λ _ _.
    exactly_then _ _ _ (exactly_if (ltb (length s) (amounts_length n s)) 6 [] (lt_iff (length s) (amounts_length n s))) (λ _ _.
    exactly_then _ _ _ (exactly_if (ltb (amounts_length n s) (length s)) 8 [] (lt_iff (amounts_length n s) (length s))) (λ _ _.
    let high : Bool = not (every (n.lots + n.calls) (λ k. leb (amount_at s k) amount_limit)) in
    let exceeds : Bool = not (every n.lots (λ i. leb (reserve_at s i) (amount_at s i))) in
    exactly_then _ _ _ (exactly_if high 16 [] (above_iff (n.lots + n.calls) (amount_at s) (λ k. amount_limit))) (λ _ _.
    exactly_gives (refuse_if exceeds 21 []) (λ _. n) (exactly_if exceeds 21 [] (above_iff n.lots (reserve_at s) (amount_at s))))))))))
