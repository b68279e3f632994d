-- The demands' hypotheses are met, by the books and amounts of F1, F8, F9 and F10, and those of requests 2 to 5 by computed cases: they speak
-- of something.
use mathlib.Core.Path.{◌≡◌, refl, sym, ◌∙◌}
use mathlib.Core.Logic.{inl, inr, ⊎_elim}
use mathlib.Core.List.{List, [], ◌∷◌}
use Prim.Native.Nat.{ℕ, ◌≤◌}
use native.Mathlib.Omega.{arith}
use borrow.Author.Tests.{le-ltb}
use lib.Count.{ones, ones_in}
use lib.Dec.{lit≤}
use lib.IntN.{pos, negsuc}
use lib.Signed.{◌≤ℤ◌}
use lib.ListN.{length, replicate}
use Rattle.transport.specs.Problem.{sum, Eligible, Meets, MeetsCalls}
use Rattle.transport.specs.Greedy.{Pair}
use Rattle.transport.specs.Signed.{signed_cost}
use Rattle.transport.specs.Finder.{every}
use Rattle.specification.specs.Reply.{gives, full, Outcome}
use Rattle.specification.specs.Bytes.{u16_at, u32_at, read_opening}
use Rattle.specification.specs.Book.{read_costs, read_row, read_rows, book_version, read_book, row_at, problem_of, costs_of}
use Rattle.specification.specs.Amounts.{lot_amount, call_amount, read_amounts_of, read_amounts}
use Rattle.specification.specs.OrderFile.{order_pairs}
use Rattle.specification.specs.Run.{run_order}
use Rattle.specification.specs.Find.{order_length, find_order}
use Rattle.specification.specs.Demands.{Readable, Passing, GoodOrder, returned}
use Rattle.specification.specs.Idle.{enlarged, enlarged_costs}
use Rattle.specification.specs.Requests.{ThreeEligible, Alike}
use Rattle.specification.specs.Entry.{by_order, by_found, idle}
use Rattle.specification.specs.EmptyDesk.{EmptyDesk, EmptyAmounts, EmptyOpening, NoBits}
use Rattle.specification.specs.Examples.{book, amounts, book1235, amounts5436, book_gap, book_empty, book_diagonal, known_examples}
use Rattle.specification.proofs.AllCases.{book_corners, book_spare, amounts_spare, idle_cases, book_steps}
use Rattle.specification.proofs.AllRebates.{book_rebates, book_rebate, amounts_rebate, rebate_cases}
use Rattle.specification.proofs.AllEmptyDesks.{book_no_calls, book_no_lots, book_nothing_yet, stock, empty_cases}
use Rattle.specification.proofs.AllPanels.{eight_by_eight, ticket, panel_cases}
use Rattle.specification.proofs.Replies.{not_both}
use Rattle.specification.proofs.Books.{admitted_inside}
use Rattle.specification.proofs.Verdicts.{short_not_full, short_not_covered}
use Rattle.specification.proofs.Demands.{demand2, demand3}
use Rattle.specification.proofs.EmptyDesks.{request5}
use Rattle.specification.proofs.IdleRuns.{Allowed, idle_found, request2}
use Rattle.specification.proofs.Panels.{request6}

-- the buffers of the examples
abbrev order_buffer : List ℕ
order_buffer = replicate 16 7

abbrev flow_buffer : List ℕ
flow_buffer = 9 ∷ 9 ∷ 9 ∷ 9 ∷ 9 ∷ []

-- the order file that is returned for F1's book, and the outcome of the run by it
abbrev order : List ℕ
order = returned book1235 order_buffer

abbrev outcome : Outcome
outcome = record { verdict = full; units = 9; cost = pos 24 }

-- the amounts of F8 and of F10
abbrev amounts8 : List ℕ
amounts8 = amounts 2 2 (2 ∷ 0 ∷ 1 ∷ 0 ∷ [])

abbrev amounts10 : List ℕ
amounts10 = amounts 1 1 (1 ∷ 1 ∷ [])

-- what demands 2 and 3 and requests 2 to 6 assume, each met
pub record NotVacuous : Type 0 where
  -- a readable book, a buffer long enough, and an order returned
  pub readable : Readable book1235
  pub long_enough : order_length book1235 ≤ length order_buffer
  pub found : find_order book1235 order_buffer ≡ gives (order_length book1235)
  -- a good order and a passing one
  pub some_good : (S : List Pair) × GoodOrder (problem_of book1235) (costs_of book1235) S
  pub some_passing : (S : List ℕ) × Passing book1235 S
  -- amounts that are read, a run that is accepted, and an allocation that meets everything
  pub amounts_read : read_amounts book1235 amounts5436 ≡ gives (record { lots = 2; calls = 2 })
  pub run_accepted : run_order book1235 order amounts5436 flow_buffer ≡ gives outcome
  pub some_meets : (x : ℕ → ℕ → ℕ) × Meets (problem_of book1235) (lot_amount amounts5436) (call_amount book1235 amounts5436) x
  -- an allocation that meets every call, where a run is Covered (F8), and none, where it is Short (F10)
  pub some_meets_calls : (x : ℕ → ℕ → ℕ) × MeetsCalls (problem_of book_gap) (lot_amount amounts8) (call_amount book_gap amounts8) x
  pub none_meets_calls : (x : ℕ → ℕ → ℕ) → MeetsCalls (problem_of book_empty) (lot_amount amounts10) (call_amount book_empty amounts10) x → ⊥
  -- a readable book with no good order
  pub none_good : Readable book_diagonal × ((S : List Pair) → GoodOrder (problem_of book_diagonal) (costs_of book_diagonal) S → ⊥)
  -- an allocation that meets every call, where a run with an idle call is accepted (`idle_cases.spare`)
  pub idle_meets : (x : ℕ → ℕ → ℕ) × MeetsCalls (problem_of book_spare) (lot_amount amounts_spare) (call_amount book_spare amounts_spare) x
  -- and a book with an order, whose enlarged book has none that is good, where no other refusal applies
  pub idle_none_good : Allowed book_corners (amounts 3 2 (replicate 5 0)) (replicate 6 8)
      × ((S : List Pair) → GoodOrder (enlarged book_corners) (enlarged_costs book_corners) S → ⊥)
  -- three eligible pairs of a readable book, for each answer of the test of a quadruple (`quadruple_cases`)
  pub quadruple_holds : ThreeEligible book_steps 0 1 1 3
  pub quadruple_too_high : ThreeEligible book_steps 0 3 1 1
  pub quadruple_not_eligible : ThreeEligible book_gap 0 0 1 1
  -- a readable book of each version, with an eligible pair
  pub version_1 : (book_version book_steps ≡ 1) × Eligible (problem_of book_steps) 0 1
  pub version_2 : Readable book_rebates × (book_version book_rebates ≡ 2) × Eligible (problem_of book_rebates) 0 1
  -- a least cost below zero: some allocation meets everything, and none that does costs less than -14
  pub least_below_zero : ((x : ℕ → ℕ → ℕ) × Meets (problem_of book_rebates) (lot_amount amounts5436) (call_amount book_rebates amounts5436) x)
      × ((x : ℕ → ℕ → ℕ) → Meets (problem_of book_rebates) (lot_amount amounts5436) (call_amount book_rebates amounts5436) x
      → negsuc 13 ≤ℤ signed_cost (problem_of book_rebates) (costs_of book_rebates) x)
  -- and one with an idle call: some allocation meets every call, and none that does costs less than -6
  pub idle_below_zero : ((x : ℕ → ℕ → ℕ) × MeetsCalls (problem_of book_rebate) (lot_amount amounts_rebate) (call_amount book_rebate amounts_rebate) x)
      × ((x : ℕ → ℕ → ℕ) → MeetsCalls (problem_of book_rebate) (lot_amount amounts_rebate) (call_amount book_rebate amounts_rebate) x
      → negsuc 5 ≤ℤ signed_cost (problem_of book_rebate) (costs_of book_rebate) x)
  -- desks without lots and without calls, with amounts
  pub no_lots_yet : EmptyDesk (book_no_lots 32) (record { lots = 0; calls = 32 })
  pub no_calls_yet : EmptyDesk (book_no_calls 2) (record { lots = 2; calls = 0 })
  pub no_lots_asked : EmptyAmounts (book_no_lots 1) (amounts 0 1 (1 ∷ [])) (record { lots = 0; calls = 1 })
  pub no_calls_stocked : EmptyAmounts (book_no_calls 2) stock (record { lots = 2; calls = 0 })
  -- files that open so, of either version and as large as they may be; with each word 0
  pub open_so : EmptyOpening (book_no_lots 32) × EmptyOpening (book_no_calls 32) × EmptyOpening book_nothing_yet
  pub each_word_0 : EmptyOpening (book_no_calls 2) × NoBits (book_no_calls 2) 2
  -- a book of eight by eight
  pub within_eight : Alike eight_by_eight ticket (replicate 64 9)

length_1235 : order_length book1235 ≡ 15
unfolding problem_of row_at u16_at u32_at sum ones
length_1235 = refl

length_diagonal : order_length book_diagonal ≡ 19
unfolding problem_of row_at u16_at u32_at sum ones
length_diagonal = refl

reads_1235 : read_book book1235 ≡ gives (record { lots = 2; calls = 2 })
unfolding u16_at u32_at read_opening read_costs read_row read_rows read_book ones ones_in
reads_1235 = refl

reads_diagonal : read_book book_diagonal ≡ gives (record { lots = 3; calls = 3 })
unfolding u16_at u32_at read_opening read_costs read_row read_rows read_book ones ones_in
reads_diagonal = refl

reads_steps : read_book book_steps ≡ gives (record { lots = 2; calls = 4 })
unfolding u16_at u32_at read_opening read_costs read_row read_rows read_book ones ones_in
reads_steps = refl

reads_gap : read_book book_gap ≡ gives (record { lots = 2; calls = 2 })
unfolding u16_at u32_at read_opening read_costs read_row read_rows read_book ones ones_in
reads_gap = refl

-- pairs of these books are eligible where a word has their bit
three_1_3 : ThreeEligible book_steps 0 1 1 3
unfolding problem_of row_at u16_at u32_at ones
three_1_3 = record {
  readable = (_, reads_steps);
  own = admitted_inside book_steps _ _ tt;
  by_lot = admitted_inside book_steps _ _ tt;
  by_call = admitted_inside book_steps _ _ tt;
}

three_3_1 : ThreeEligible book_steps 0 3 1 1
unfolding problem_of row_at u16_at u32_at ones
three_3_1 = record {
  readable = three_1_3.readable;
  own = three_1_3.by_lot;
  by_lot = three_1_3.own;
  by_call = admitted_inside book_steps _ _ tt;
}

three_gap : ThreeEligible book_gap 0 0 1 1
unfolding problem_of row_at u16_at u32_at ones
three_gap = record {
  readable = (_, reads_gap);
  own = admitted_inside book_gap _ _ tt;
  by_lot = admitted_inside book_gap _ _ tt;
  by_call = admitted_inside book_gap _ _ tt;
}

reads_rebates : read_book book_rebates ≡ gives (record { lots = 2; calls = 2 })
unfolding u16_at u32_at read_opening read_costs read_row read_rows read_book ones ones_in
reads_rebates = refl

of_version_1 : book_version book_steps ≡ 1
unfolding u16_at
of_version_1 = refl

of_version_2 : (book_version book_rebates ≡ 2) × Eligible (problem_of book_rebates) 0 1
unfolding problem_of row_at u16_at u32_at ones
of_version_2 = (refl, admitted_inside book_rebates _ _ tt)

reads_amounts_lem : read_amounts book1235 amounts5436 ≡ gives (record { lots = 2; calls = 2 })
unfolding read_amounts read_amounts_of u16_at u32_at read_opening every
reads_amounts_lem = rw reads_1235 refl

runs_1235 : run_order book1235 order amounts5436 flow_buffer ≡ gives outcome
runs_1235 =
    sym (demand2.by_find_and_run book1235 order_buffer 15 known_examples.f1_found.0 amounts5436 flow_buffer).0
    ∙ known_examples.f1_placed.0

idle_allowed : Allowed book_corners (amounts 3 2 (replicate 5 0)) (replicate 6 8)
unfolding u16_at u32_at read_opening read_costs read_row read_rows read_book problem_of read_amounts_of read_amounts ones ones_in every sum
idle_allowed = record {
  size = record { lots = 3; calls = 2 };
  reads = refl;
  not_18 = omega arith;
  not_19 = omega arith;
  not_17 = omega arith;
}

-- two lots and no calls: the opening, and a first word of 0
opens_empty : (rows : List ℕ) → EmptyOpening (book 2 0 rows)
unfolding u16_at read_opening
opens_empty rows = record { opens = rw (le-ltb (length (book 2 0 rows)) 7 (omega arith)) refl; lots_few = lit≤ tt; calls_few = lit≤ tt; empty = inr refl }

opens_most : EmptyOpening (book_no_lots 32) × EmptyOpening (book_no_calls 32) × EmptyOpening book_nothing_yet
unfolding u16_at read_opening
opens_most = (
  record { opens = refl; lots_few = lit≤ tt; calls_few = lit≤ tt; empty = inl refl },
  record { opens = refl; lots_few = lit≤ tt; calls_few = lit≤ tt; empty = inr refl },
  record { opens = refl; lots_few = lit≤ tt; calls_few = lit≤ tt; empty = inl refl },
)

pub not_vacuous : NotVacuous
not_vacuous =
    let is_found = known_examples.f1_found.0 in
    let long : order_length book_diagonal ≤ 19 = omega (arith, length_diagonal) in
    let (_, by) = demand3.by_returned book1235 order_buffer 15 is_found in
    let spare = demand3.best idle book_spare amounts_spare (replicate 5 8) _ idle_cases.spare in
    let rebates = demand3.best by_found book_rebates amounts5436 (replicate 4 9) _ rebate_cases.rebates in
    let rebate = demand3.best idle book_rebate amounts_rebate (8 ∷ 8 ∷ []) _ rebate_cases.idle_rebate in
    record {
      readable = (_, reads_1235);
      long_enough = omega (arith, length_1235);
      found = rw length_1235 is_found;
      some_good = (order_pairs order, by.good);
      some_passing = (_, demand2.only_these book1235 _ _ (demand2.read_back book1235 order_buffer 15 is_found));
      amounts_read = reads_amounts_lem;
      run_accepted = runs_1235;
      some_meets = (demand3.best (by_order order) book1235 amounts5436 flow_buffer outcome runs_1235).full_iff.0 refl;
      some_meets_calls = (demand3.best by_found book_gap amounts8 _ _ known_examples.f8.0).met_iff.0 (inr refl);
      none_meets_calls = λ x m.
          let best = demand3.best by_found book_empty amounts10 _ _ known_examples.f10_placed.0 in
          ⊎_elim short_not_full short_not_covered (best.met_iff.1 (x, m));
      none_good = (
        (_, reads_diagonal),
        λ S good. not_both (demand3.finds book_diagonal (replicate 19 7) (_, reads_diagonal) long S good) known_examples.f9,
      );
      idle_meets = spare.met_iff.0 (inr refl);
      idle_none_good = (
        idle_allowed,
        λ S good. not_both (idle_found book_corners _ _ idle_allowed S good).1 idle_cases.without_order,
      );
      quadruple_holds = three_1_3;
      quadruple_too_high = three_3_1;
      quadruple_not_eligible = three_gap;
      version_1 = (of_version_1, three_1_3.own);
      version_2 = ((_, reads_rebates), of_version_2.0, of_version_2.1);
      least_below_zero = (rebates.full_iff.0 refl, rebates.least_cost);
      idle_below_zero = (
        rebate.met_iff.0 (inr refl),
        request2.least_cost book_rebate amounts_rebate (8 ∷ 8 ∷ []) _ rebate_cases.idle_rebate,
      );
      no_lots_yet = (empty_cases.reads_no_lots, inl refl);
      no_calls_yet = (empty_cases.reads_no_calls, inr refl);
      no_lots_asked = (empty_cases.amounts_of_calls, inl refl);
      no_calls_stocked = (empty_cases.amounts_read, inr refl);
      open_so = opens_most;
      each_word_0 = (opens_empty (0 ∷ 0 ∷ []), ((request5.reads (book_no_calls 2) (opens_empty (0 ∷ 0 ∷ []))).0 empty_cases.reads_no_calls).0);
      within_eight = request6.alike eight_by_eight ticket (replicate 64 9) (not_both panel_cases.eight);
    }
