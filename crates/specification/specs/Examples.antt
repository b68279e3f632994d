-- The starred examples of document 01, F1 to F11, as one fact that is computed from the definitions, byte by byte.
use Rattle.std.specs.Prelude.{◌≡◌, refl, List, [], ◌∷◌, ◌++◌, ℕ, suc, replicate, ℤ, pos}
use Rattle.std.specs.Int.Count.{ones, ones_in}
use Rattle.transport.specs.Problem.{sum}
use Rattle.transport.specs.Signed.{sumℤ}
use Rattle.transport.specs.Greedy.{Pair, pair, give_all}
use Rattle.transport.specs.Order.{times}
use Rattle.transport.specs.Finder.{every, first, take_from}
use Rattle.specification.specs.Reply.{Reply, gives, refuses, Verdict, full, covered, short}
use Rattle.specification.specs.Bytes.{u16_at, u32_at, book_mark, amounts_mark, read_opening}
use Rattle.specification.specs.Book.{read_costs, read_row, read_rows, read_book, row_at, problem_of, costs_of}
use Rattle.specification.specs.OrderFile.{pairs, pair_bytes, order_file}
use Rattle.specification.specs.Check.{check_pairs, check_quadruple, in_turn, check_monge, check_order}
use Rattle.specification.specs.Amounts.{read_amounts_of, read_amounts}
use Rattle.specification.specs.Run.{tabulate, flow_of}
use Rattle.specification.specs.Find.{found_order, find_order, find_buffer, found_to_run, find_and_run, find_and_run_flow}
use Rattle.specification.specs.Text.{digits, line, pair_lines, text_of, printed}

-- a number below 256 as a 32-bit field
abbrev word : ℕ → List ℕ
word n = n ∷ 0 ∷ 0 ∷ 0 ∷ []

-- such fields, one after the other
abbrev pub words : List ℕ → List ℕ
words [] = []
words (n ∷ ns) = word n ++ words ns

-- a book, from n, m and the 32-bit fields that follow
abbrev pub book : ℕ → ℕ → List ℕ → List ℕ
book n m fields = book_mark ++ (1 ∷ 0 ∷ n ∷ m ∷ words fields)

-- an amounts file likewise
abbrev pub amounts : ℕ → ℕ → List ℕ → List ℕ
amounts n m fields = amounts_mark ++ (1 ∷ 0 ∷ n ∷ m ∷ words fields)

-- the book of F1 to F4: 2 by 2, costs 1 2 / 3 5
abbrev pub book1235 : List ℕ
book1235 = book 2 2 (3 ∷ 1 ∷ 2 ∷ 3 ∷ 3 ∷ 5 ∷ [])

-- of F5: 2 by 2, costs 1 2 / 3 4
abbrev book1234 : List ℕ
book1234 = book 2 2 (3 ∷ 1 ∷ 2 ∷ 3 ∷ 3 ∷ 4 ∷ [])

-- of F6 to F8: 2 by 2, (1, 1) not eligible, costs 0
abbrev pub book_gap : List ℕ
book_gap = book 2 2 (3 ∷ 0 ∷ 0 ∷ 1 ∷ 0 ∷ [])

-- of F9: 3 by 3, diagonal not eligible, costs 0
abbrev pub book_diagonal : List ℕ
book_diagonal = book 3 3 (6 ∷ 0 ∷ 0 ∷ 5 ∷ 0 ∷ 0 ∷ 3 ∷ 0 ∷ 0 ∷ [])

-- of F10 and F11: 1 by 1, not eligible
abbrev pub book_empty : List ℕ
book_empty = book 1 1 (0 ∷ [])

-- the file that is found, in a buffer that is one byte longer than it must be
abbrev Finds : List ℕ → List Pair → ℕ → Type 0
Finds b S n = (find_order b (replicate (suc n) 7) ≡ gives n) × (find_buffer b (replicate (suc n) 7) ≡ order_file S ++ (7 ∷ []))

-- the reply to an order, written as its file
abbrev Checks : List ℕ → List Pair → Reply ℕ → Type 0
Checks b S r = check_order b (order_file S) ≡ r

-- find and run in one call, on a flow buffer that is one entry longer than it must be
abbrev Places : List ℕ → List ℕ → Verdict → ℕ → ℤ → List ℕ → List ℕ → Type 0
Places b a v u c before after =
    (find_and_run b a before ≡ gives (record { verdict = v; units = u; cost = c })) × (find_and_run_flow b a before ≡ after)

-- the amounts of F1: lots 5 4, calls 3 6
abbrev pub amounts5436 : List ℕ
amounts5436 = amounts 2 2 (5 ∷ 4 ∷ 3 ∷ 6 ∷ [])

-- what is printed on F1: FULL 9 24, and the lines of its three pairs with units
abbrev pub text5436 : List ℕ
text5436 = 70 ∷ 85 ∷ 76 ∷ 76 ∷ 32 ∷ 57 ∷ 32 ∷ 50 ∷ 52 ∷ 10
    ∷ 48 ∷ 32 ∷ 49 ∷ 32 ∷ 53 ∷ 10
    ∷ 49 ∷ 32 ∷ 48 ∷ 32 ∷ 51 ∷ 10
    ∷ 49 ∷ 32 ∷ 49 ∷ 32 ∷ 49 ∷ 10
    ∷ []

-- F1 to F11, and the text printed on F1; document 01 writes a pair as its two digits, 01 for lot 0 with call 1. "F8 becomes Covered"
-- (document 02, request 1)
pub record KnownExamples : Type 0 where
  pub f1_found : Finds book1235 (pair 0 1 ∷ pair 0 0 ∷ pair 1 0 ∷ pair 1 1 ∷ []) 15
  pub f1_placed : Places book1235 amounts5436 full 9 (pos 24) (9 ∷ 9 ∷ 9 ∷ 9 ∷ 9 ∷ []) (0 ∷ 5 ∷ 3 ∷ 1 ∷ 9 ∷ [])
  pub f2 : Checks book1235 (pair 0 0 ∷ pair 0 1 ∷ pair 1 0 ∷ pair 1 1 ∷ []) (refuses 12 (0 ∷ 0 ∷ 1 ∷ 1 ∷ []))
  pub f3 : Checks book1235 (pair 1 1 ∷ pair 0 0 ∷ pair 0 1 ∷ pair 1 0 ∷ []) (refuses 12 (1 ∷ 1 ∷ 0 ∷ 0 ∷ []))
  pub f4 : Checks book1235 (pair 0 1 ∷ pair 1 0 ∷ pair 0 0 ∷ pair 1 1 ∷ []) (gives 4)
  pub f5 : Checks book1234 (pair 0 0 ∷ pair 0 1 ∷ pair 1 0 ∷ pair 1 1 ∷ []) (gives 4)
  pub f6 : Checks book_gap (pair 0 0 ∷ pair 0 1 ∷ pair 1 0 ∷ []) (refuses 11 (0 ∷ 0 ∷ 1 ∷ 1 ∷ []))
  pub f7_found : Finds book_gap (pair 0 1 ∷ pair 0 0 ∷ pair 1 0 ∷ []) 13
  pub f7_placed : Places book_gap (amounts 2 2 (1 ∷ 1 ∷ 1 ∷ 1 ∷ [])) full 2 (pos 0) (9 ∷ 9 ∷ 9 ∷ 9 ∷ 9 ∷ []) (0 ∷ 1 ∷ 1 ∷ 0 ∷ 9 ∷ [])
  pub f8 : Places book_gap (amounts 2 2 (2 ∷ 0 ∷ 1 ∷ 0 ∷ [])) covered 1 (pos 0) (9 ∷ 9 ∷ 9 ∷ 9 ∷ 9 ∷ []) (1 ∷ 0 ∷ 0 ∷ 0 ∷ 9 ∷ [])
  pub f9 : find_order book_diagonal (replicate 19 7) ≡ refuses 13 []
  pub f10_found : Finds book_empty [] 7
  pub f10_placed : Places book_empty (amounts 1 1 (1 ∷ 1 ∷ [])) short 0 (pos 0) (9 ∷ 9 ∷ []) (0 ∷ 9 ∷ [])
  pub f11 : Places book_empty (amounts 1 1 (0 ∷ 0 ∷ [])) full 0 (pos 0) (9 ∷ 9 ∷ []) (0 ∷ 9 ∷ [])
  pub f1_printed : printed book1235 amounts5436 ≡ text5436

pub known_examples : KnownExamples
unfolding u16_at u32_at read_opening read_costs read_row read_rows read_book row_at problem_of costs_of read_amounts_of read_amounts pairs pair_bytes
known_examples =
    unfold check_pairs check_quadruple in_turn check_monge check_order tabulate flow_of sum sumℤ times give_all every first take_from ones ones_in in
    unfold found_order find_order find_buffer found_to_run find_and_run find_and_run_flow digits line pair_lines text_of printed in
    record {
      f1_found = (refl, refl);
      f1_placed = (refl, refl);
      f2 = refl;
      f3 = refl;
      f4 = refl;
      f5 = refl;
      f6 = refl;
      f7_found = (refl, refl);
      f7_placed = (refl, refl);
      f8 = (refl, refl);
      f9 = refl;
      f10_found = (refl, refl);
      f10_placed = (refl, refl);
      f11 = (refl, refl);
      f1_printed = refl;
    }
