use Rattle.std.proofs.Common.{◌≡◌, ◌+◌}
use Rattle.specification.specs.Book.{row_word, row_at}
use Rattle.slacks.specs.Filling.{Filled, Reached}
use Rattle.slacks.proofs.filling.fill_rows.Given as goal

-- the lots below i are entered, with their words, and `at` is where the row of lot i starts
abbrev pub invariant-loop-i : goal.invariant-loop-i
invariant-loop-i l =
    Reached l.book.bytes.now l.i 0 (l.at + 4) l.slacks × Filled (λ k word. word ≡ row_word (row_at l.book.bytes.now k)) l.i l.initial.own-items l.own-items
