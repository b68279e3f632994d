-- The fields of an amounts file with a new amount in place (document 02, request 8): what the file holds elsewhere stays, so no amount of a pair
-- that precedes the first one of that lot or call differs.
use mathlib.Core.Path.{◌≡◌, refl, ap}
use mathlib.Core.Logic.{◌⊎◌, inl, inr, by_cases}
use mathlib.Core.Bool.{Bool}
use mathlib.Core.List.{List}
use Prim.Native.Nat.{ℕ, ◌+◌, ◌*◌, ◌<◌}
use native.Mathlib.Decide.{dec_lt}
use native.Mathlib.Omega.{arith}
use lib.Dec.{T, ltb→lt, eqb_refl}
use Rattle.transport.specs.Problem.{Problem, Eligible}
use Rattle.transport.specs.Greedy.{Pair}
use Rattle.transport.specs.Order.{times, OrderOf}
use Rattle.transport.specs.Changes.{Change, lot_takes, call_takes, is_of_lot, is_of_call, concerns, earlier, onward}
use Rattle.transport.proofs.Orders.Lists.{lists_of_order}
use Rattle.transport.proofs.Orders.Places.{times_append}
use Rattle.transport.proofs.Orders.Split.{split, earlier_fails}
use Rattle.specification.specs.Reply.{gives, Size}
use Rattle.specification.specs.Bytes.{byte_at, u16_at}
use Rattle.specification.specs.Book.{book_lots, book_calls}
use Rattle.specification.specs.Amounts.{amount_at, amounts_version, lot_amount, call_amount, read_amounts}
use Rattle.specification.specs.Change.{put_u32, changed_field, is_in_book, amounts_with}
use Rattle.specification.proofs.AmountsFiles.{amounts_read}
use Rattle.specification.proofs.PutNumbers.{put_other, number_other}

-- number f of the file is v
module _ (s : List ℕ) (f v : ℕ) where
  abbrev with_it : List ℕ
  with_it = put_u32 s (7 + 4 * f) v

  pub head_kept : (k : ℕ) → k < 7 → byte_at with_it k ≡ byte_at s k
  head_kept k h = put_other s (7 + 4 * f) v k (inl (omega arith))

  pub version_kept : amounts_version with_it ≡ amounts_version s
  unfolding u16_at
  version_kept = omega (arith, head_kept 3 (omega arith), head_kept 4 (omega arith))

  pub field_other : (k : ℕ) → (k ≡ f → ⊥) → amount_at with_it k ≡ amount_at s k
  field_other k other =
      number_other s (7 + 4 * f) v (7 + 4 * k) (by_cases (dec_lt k f) (λ below. inl (omega arith)) (λ above. inr (omega arith)))

  -- a lot's amount too, where the number is no reserve
  pub lot_other : f < byte_at s 5 + byte_at s 6 → (i : ℕ) → (i ≡ f → ⊥) → lot_amount with_it i ≡ lot_amount s i
  lot_other amount i other = rw (
    version_kept,
    head_kept 5 (omega arith),
    head_kept 6 (omega arith),
    field_other i other,
    field_other (byte_at s 5 + byte_at s 6 + i) (λ e. omega arith),
  ) refl

pub field_within : (book : List ℕ) (c : Change) → T (is_in_book book c) → changed_field book c < book_lots book + book_calls book
field_within book (lot_takes k v) t = omega (arith, ltb→lt k (book_lots book) t)
field_within book (call_takes k v) t = omega (arith, ltb→lt k (book_calls book) t)

-- an earlier pair is eligible
pub earlier_eligible : {P : Problem} {S : List Pair} → OrderOf P S → (test : Pair → Bool) (i j : ℕ) → 0 < times i j (earlier test S)
    → Eligible P i j
earlier_eligible {S = S} order test i j h = (lists_of_order order).eligible i j
    (omega (arith, ap (times i j) (split test S), times_append i j (earlier test S) (onward test S)))

-- and its amounts stay
pub earlier_same : (book amounts : List ℕ) (n : Size) → read_amounts book amounts ≡ gives n → (c : Change) → T (is_in_book book c)
    → (S : List Pair) (i j : ℕ) → i < book_lots book → 0 < times i j (earlier (concerns c) S)
    → (lot_amount (amounts_with book amounts c) i ≡ lot_amount amounts i)
    × (call_amount book (amounts_with book amounts c) j ≡ call_amount book amounts j)
earlier_same book amounts n reads c inside S i j low h = (
  lot_other amounts (changed_field book c) _ (omega (arith, field_within book c inside, counts)) i (λ e. other c inside h (inl e)),
  field_other amounts (changed_field book c) _ (book_lots book + j) (λ e. other c inside h (inr e)),
)
  where
    counts : byte_at amounts 5 + byte_at amounts 6 ≡ book_lots book + book_calls book
    counts = let (book_is, read) = amounts_read book amounts n reads in
        rw (read.same_lots, read.same_calls, book_is.sizes) refl

    other : (c : Change) → T (is_in_book book c) → 0 < times i j (earlier (concerns c) S)
        → (i ≡ changed_field book c) ⊎ (book_lots book + j ≡ changed_field book c) → ⊥
    other (lot_takes k v) t h (inl e) = earlier_fails (is_of_lot k) S i j h (rw e (eqb_refl k))
    other (lot_takes k v) t h (inr e) = omega (arith, ltb→lt k (book_lots book) t)
    other (call_takes k v) t h (inl e) = omega arith
    other (call_takes k v) t h (inr e) =
        let same : j ≡ k = omega arith in
        earlier_fails (is_of_call k) S i j h (rw same (eqb_refl k))
