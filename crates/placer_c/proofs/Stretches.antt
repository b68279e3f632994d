-- A lot's costs follow the word that its row starts with: `CostsStand` says where. A stretch that is not empty is of a readable book and a
-- lot of it.
use mathlib.Core.Path.{◌≡◌, refl, sym, ◌∙◌, ap}
use mathlib.Core.Bool.{Bool, true, false}
use mathlib.Core.List.{List}
use Prim.Native.Nat.{ℕ, ◌+◌, ◌*◌, ◌≤◌, ◌<◌}
use native.Mathlib.Omega.{arith}
use borrow.Author.Tests.{ltb-true}
use lib.Count.{ones}
use lib.Dec.{ltb}
use lib.ListN.{length, take, drop, length-take, length-drop}
use lib.Seq.{drop-drop}
use Rattle.specification.specs.Reply.{Reply, gives, refuses, Size}
use Rattle.specification.specs.Book.{row_word, row_size, book_lots, book_calls, read_book, row_at, row_start, lot_costs}
use Rattle.specification.proofs.Books.{book_read}
use Rattle.specification.proofs.Starts.{row_is, row_inside}

-- the costs of a lot of a readable book
pub record CostsStand (book : List ℕ) (lot : ℕ) : Type 0 where
  pub reads : read_book book ≡ gives (record { lots = book_lots book; calls = book_calls book })
  pub lot_in : lot < book_lots book
  pub inside : row_start book lot + row_size (row_at book lot) ≤ length book
  pub stretch : take (length (lot_costs book lot)) (drop (row_start book lot + 4) book) ≡ lot_costs book lot

module _ (book : List ℕ) (lot : ℕ) where
  -- the costs of a row, by their offsets in the book
  in_book : (count : ℕ) → take count (drop 4 (row_at book lot)) ≡ take count (drop (row_start book lot + 4) book)
  in_book count = rw (row_is, drop-drop)

  of_lot : (size : Size) → read_book book ≡ gives size → (inner : Bool) → ltb lot size.lots ≡ inner
      → (length (lot_costs book lot) ≡ 0 → ⊥) → CostsStand book lot
  unfolding lot_costs
  of_lot size e false outside some = absurd (some (rw (e, outside)))
  of_lot size e true inner some =
      let count : ℕ = 4 * ones (row_word (row_at book lot)) in
      let read = book_read book size e in
      let below : lot < book_lots book = rw (← ap (λ (z : Size). z.lots) read.sizes) (ltb-true _ _ inner) in
      let rows = row_inside read in
      let costs : lot_costs book lot ≡ take count (drop (row_start book lot + 4) book) = rw (e, inner) (in_book count) in
      let long : length (lot_costs book lot) ≡ count = rw (costs, length-take, length-drop) (omega (arith, rows lot below)) in
      record {
        reads = e ∙ ap gives read.sizes;
        lot_in = below;
        inside = rows lot below;
        stretch = rw long (sym costs);
      }

  pub costs_stand : (r : Reply Size) → read_book book ≡ r → (length (lot_costs book lot) ≡ 0 → ⊥) → CostsStand book lot
  unfolding lot_costs
  costs_stand (refuses k vs) e some = absurd (some (rw e))
  costs_stand (gives size) e some = of_lot size e (ltb lot size.lots) refl some
