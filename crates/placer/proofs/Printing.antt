-- What is rendered of the answer of finding and running is what document 01 has printed of the two files.
use mathlib.Core.Path.{◌≡◌, refl, sym}
use mathlib.Core.List.{List}
use Prim.Native.Nat.{ℕ, ◌≤◌}
use Rattle.std.specs.Prelude.{Ok, Err, OnOk, Result}
use Rattle.specification.specs.declared.Counts.{Counts}
use Rattle.specification.specs.declared.Placed.{Placed}
use Rattle.specification.specs.declared.Refusal.{Refusal}
use Rattle.specification.specs.Reply.{Reply, gives, refuses, stated_placed}
use Rattle.specification.specs.Book.{book_lots, book_calls}
use Rattle.specification.specs.Amounts.{read_amounts}
use Rattle.specification.specs.Find.{found_to_run, find_and_run}
use Rattle.specification.proofs.Replies.{not_both}
use Rattle.specification.proofs.AmountsFiles.{amounts_read}

-- an answer that is no refusal is of a readable book, so that its counts fit
pub counts_fit : (book amounts flow : List ℕ) (answer : Result Placed Refusal) → stated_placed answer ≡ find_and_run book amounts flow
    → OnOk answer ((book_lots book ≤ 32) × (book_calls book ≤ 32))
unfolding find_and_run found_to_run
counts_fit book amounts flow (Err r) replied = tt
counts_fit book amounts flow (Ok placed) replied = by_amounts (read_amounts book amounts) refl
  where
    by_amounts : (r : Reply Counts) → read_amounts book amounts ≡ r → (book_lots book ≤ 32) × (book_calls book ≤ 32)
    by_amounts (gives n) e = let read = (amounts_read book amounts n e).0 in (read.lots_within, read.calls_within)
    by_amounts (refuses k vs) e = absurd (not_both {k = k} {vs = vs} (sym replied) (rw e refl))
