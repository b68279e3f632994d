-- A stretch of the caller's book, as C gets it.
use Rattle.std.specs.Prelude.{List, cond, ℕ, ◌+◌, length, eqb}
use Rattle.specification.specs.Book.{row_start, lot_costs}
use Rattle.placer_c.specs.declared.Stretch.{Stretch}

-- the bytes of the book that hold a lot's costs: they follow the word that its row starts with; 0, 0 where there are none
unfoldable pub stretch_of : List ℕ → ℕ → Stretch
stretch_of book lot =
    cond (eqb (length (lot_costs book lot)) 0)
    (record { start = 0; len = 0 })
    (record { start = row_start book lot + 4; len = length (lot_costs book lot) })
