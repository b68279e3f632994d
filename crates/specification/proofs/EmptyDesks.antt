-- A desk with no lots or no calls (document 02, request 5): its order has no pairs, and each of its runs places nothing. With an idle call
-- an order is always found: the enlarged book has no lots either, or the idle call alone.
use mathlib.Core.Path.{◌≡◌, refl, sym, ◌∙◌, ap}
use mathlib.Core.Logic.{inl, inr, ⊎_elim, by_cases}
use mathlib.Core.Bool.{cond}
use mathlib.Core.List.{List, [], ◌∷◌, ◌++◌, append-nil}
use mathlib.Core.Option.{Option, some, none}
use Prim.Native.Nat.{ℕ, zero, suc, ◌*◌, ◌≤◌, ◌<◌}
use native.Mathlib.Decide.{dec_lt}
use native.Mathlib.Omega.{arith}
use borrow.Author.Tests.{lt-ltb, le-ltb}
use lib.Dec.{eqb}
use lib.Count.{ones, ones-le}
use lib.ListN.{length, take, drop, replicate}
use Rattle.transport.specs.Problem.{sum}
use Rattle.transport.specs.Greedy.{Pair}
use Rattle.transport.specs.Finder.{find}
use Rattle.transport.proofs.Orders.OneCall.{one_call_order}
use Rattle.transport.proofs.Greedy.Signed.{idle_lifts}
use Rattle.transport.proofs.Finder.Find.{find_none}
use Rattle.specification.specs.Reply.{gives, Size, Outcome, full, covered, short}
use Rattle.specification.specs.Book.{row_word, book_lots, book_calls, row_at, problem_of, costs_of, lot_costs, outside, pair_cost}
use Rattle.specification.specs.Amounts.{read_amounts}
use Rattle.specification.specs.OrderFile.{order_count, pairs, order_pairs, order_file}
use Rattle.specification.specs.Check.{check_order}
use Rattle.specification.specs.Run.{greedy_on, outcome, run_order, run_flow}
use Rattle.specification.specs.Find.{order_length, find_order, find_buffer, find_and_run, find_and_run_flow}
use Rattle.specification.specs.Idle.{enlarged, lots_total, calls_total, find_and_run_idle, find_and_run_idle_flow}
use Rattle.specification.specs.Text.{decimal, line, verdict_word, pair_lines, text_of, book_most, amounts_most, printed}
use Rattle.specification.specs.Demands.{OrderShaped}
use Rattle.specification.specs.EmptyDesk.{Empty, EmptyDesk, EmptyAmounts, nothing_placed, Request5}
use Rattle.specification.proofs.Replies.{not_both, said_of_given, gives_if_never_refused}
use Rattle.specification.proofs.Books.{book_read, book_lifts}
use Rattle.specification.proofs.EmptyBooks.{empty_reads}
use Rattle.specification.proofs.AmountsFiles.{amounts_read, book_of_amounts}
use Rattle.specification.proofs.NothingPlaced.{some_not_none, no_cells, no_size, no_pairs, found_none, nothing_placed_lem, nothing_written}
use Rattle.specification.proofs.Checks.{check_says, check_passes}
use Rattle.specification.proofs.OrderFiles.{count_back, order_back, order_file_shaped}
use Rattle.specification.proofs.Runs.{length_run_flow, ran}
use Rattle.specification.proofs.FindRuns.{find_and_run_is_run}
use Rattle.specification.proofs.Finds.{FindRefused, of_book, buffer_too_short, without_order, found_is_good, find_says, found_passes, written}
use Rattle.specification.proofs.IdleRuns.{Allowed, length_find_and_run_idle_flow, idle_found, ran_idle}
use Rattle.specification.proofs.Demands.{demand2}

module _ (book : List ℕ) (n : Size) (desk : EmptyDesk book n) where
  empty : Empty (problem_of book).lots (problem_of book).calls
  unfolding problem_of
  empty = rw (book_read book n desk.0).sizes at desk.1

  no_word : (i : ℕ) → i < n.lots → ones (row_word (row_at book i)) ≡ 0
  no_word i h =
      let sizes = (book_read book n desk.0).sizes in
      let inside : i < book_lots book = rw sizes at h in
      let uncalled : book_calls book ≡ 0 = ⊎_elim (λ (e : n.lots ≡ 0). absurd (omega arith)) (λ e. rw sizes at e) desk.1 in
      let few = ones-le (book_calls book) (row_word (row_at book i)) ((book_read book n desk.0).row i inside).word_below in
      omega arith

  no_costs : (i : ℕ) → lot_costs book i ≡ []
  unfolding lot_costs
  no_costs i = by_cases (dec_lt i n.lots)
      (λ h. rw (desk.0, lt-ltb i n.lots h, no_word i h) refl)
      (λ h. rw (desk.0, le-ltb i n.lots (omega arith)) refl)

  never_inside : (i j : ℕ) → pair_cost book i j ≡ gives outside
  never_inside i j = demand2.pair_outside book n desk.0 i j
      (⊎_elim (λ (e : n.lots ≡ 0). inl (omega arith)) (λ (e : n.calls ≡ 0). inr (omega arith)) desk.1)

  -- its order
  passing_none : (order : List ℕ) (k : ℕ) → check_order book order ≡ gives k → (k ≡ 0) × OrderShaped order × (order_count order ≡ 0)
  unfolding pairs
  passing_none order k passes =
      let (is, passing) = said_of_given (check_says book order) k passes in
      let empty_count : order_count order ≡ 0 = counts_none (order_count order) (no_pairs (problem_of book) empty _ passing.each_once) in
      (is ∙ empty_count, passing.shaped, empty_count)
    where
      counts_none : (count : ℕ) → pairs count (drop 7 order) ≡ [] → count ≡ 0
      counts_none zero e = refl
      counts_none (suc count) e = absurd (omega (arith, ap length e))

  none_passes : (order : List ℕ) → OrderShaped order → order_count order ≡ 0 → check_order book order ≡ gives 0
  unfolding pairs
  none_passes order shaped empty_count =
      let found = found_passes book [] (n, desk.0) (found_none (problem_of book) empty) in
      rw (← empty_count) (check_passes book order (record {
        readable = (n, desk.0);
        shaped = shaped;
        each_once = rw empty_count (rw (order_back []) at found.each_once);
        monge = rw empty_count (rw (order_back []) at found.monge);
      }))

  -- what the finder writes
  finds_none : (buffer : List ℕ) → 7 ≤ length buffer
      → (find_order book buffer ≡ gives 7) × (find_buffer book buffer ≡ order_file [] ++ drop 7 buffer)
  finds_none buffer long =
      let seven : order_length book ≡ 7 = omega (arith, no_size (problem_of book) empty) in
      let (k, (is, S, gave, it), e) = gives_if_never_refused (find_says book buffer) (λ k vs. never) in
      let w = written book buffer k e in
      let nothing : w.order ≡ [] = cc (found_none (problem_of book) empty, w.gave.found) in
      (e ∙ ap gives (is ∙ seven), w.contents ∙ rw (nothing, seven) refl)
    where
      never : {k : ℕ} {vs : List ℕ} → FindRefused book buffer k vs → ⊥
      never (of_book q e) = not_both desk.0 e
      never (buffer_too_short readable h) = omega (arith, no_size (problem_of book) empty)
      never (without_order readable enough e) = some_not_none (sym (found_none (problem_of book) empty) ∙ e)

-- the counts of a book whose amounts are read
module _ (book amounts : List ℕ) (n : Size) (reads : read_amounts book amounts ≡ gives n) where
  sizes : ((problem_of book).lots ≡ n.lots) × ((problem_of book).calls ≡ n.calls)
  unfolding problem_of
  sizes = let read = (amounts_read book amounts n reads).0 in (sym (ap (λ m. m.lots) read.sizes), sym (ap (λ m. m.calls) read.sizes))

  -- the totals of no calls and of no lots
  met_by_nothing : n.calls ≡ 0 → (nothing_placed book amounts).verdict ≡ cond (eqb (lots_total book amounts) 0) full covered
  unfolding sum
  met_by_nothing uncalled = rw (sizes.1 ∙ uncalled) refl

  stock_of_none : n.lots ≡ 0 → (nothing_placed book amounts).verdict ≡ cond (eqb (calls_total book amounts) 0) full short
  unfolding sum
  stock_of_none unstocked = rw (sizes.0 ∙ unstocked) refl

-- every run
module _ (book amounts : List ℕ) (n : Size) (given : EmptyAmounts book amounts n) where
  desk : EmptyDesk book n
  desk = (book_of_amounts book amounts n given.0, given.1)

  without_pairs : Empty (problem_of book).lots (problem_of book).calls
  without_pairs = empty book n desk

  runs_none : (order flow : List ℕ) (k : ℕ) → check_order book order ≡ gives k
      → (run_order book order amounts flow ≡ gives (nothing_placed book amounts)) × (run_flow book order amounts flow ≡ flow)
  unfolding run_order
  runs_none order flow k passes =
      let long = le-ltb (length flow) ((problem_of book).lots * (problem_of book).calls) (omega (arith, no_cells (problem_of book) without_pairs)) in
      let accepted : run_order book order amounts flow ≡ gives (outcome (problem_of book) (costs_of book) (greedy_on book (order_pairs order) amounts))
      = rw (passes, given.0, long) refl in
      let r = ran book order amounts flow _ accepted in
      (accepted ∙ ap gives (nothing_placed_lem (problem_of book) without_pairs r), nothing_written (problem_of book) without_pairs r (length_run_flow book order amounts flow))

  finds_and_runs : (flow : List ℕ)
      → (find_and_run book amounts flow ≡ gives (nothing_placed book amounts)) × (find_and_run_flow book amounts flow ≡ flow)
  finds_and_runs flow =
      let (reply, written) = find_and_run_is_run book amounts flow [] (found_none (problem_of book) without_pairs) in
      let (none_placed, none_written) = runs_none (order_file []) flow 0 (none_passes book n desk _ (order_file_shaped []) (count_back [])) in
      (reply ∙ none_placed, written ∙ none_written)

  -- the enlarged book has an order: it has no lots either, or the idle call alone
  enlarged_found : find (enlarged book) ≡ none → ⊥
  enlarged_found never = ⊎_elim
      (λ no_lots. some_not_none (sym (found_none (enlarged book) (inl no_lots)) ∙ never))
      (λ no_calls.
      let (S, order, monge) = one_call_order (enlarged book) (ap suc no_calls) (λ i h. rw no_calls tt) in
      find_none (enlarged book) never S order monge)
      without_pairs

  module _ (flow : List ℕ) (enough : calls_total book amounts ≤ lots_total book amounts) (few : n.calls < 32) where
    allowed : Allowed book amounts flow
    allowed =
        let (lots, calls) = sizes book amounts n given.0 in
        let cells = rw (lots, calls) at (no_cells (problem_of book) without_pairs) in
        record { size = n; reads = given.0; not_18 = enough; not_19 = few; not_17 = omega (arith, cells) }

    some_outcome : (o : Outcome) × (find_and_run_idle book amounts flow ≡ gives o)
    some_outcome = by_find (find (enlarged book)) refl
      where
        by_find : (found : Option (List Pair)) → find (enlarged book) ≡ found → (o : Outcome) × (find_and_run_idle book amounts flow ≡ gives o)
        by_find none e = absurd (enlarged_found e)
        by_find (some S) e =
            idle_found book amounts flow allowed S (found_is_good (idle_lifts (book_lifts (book_read book n desk.0))) S e)

    runs_idle : (find_and_run_idle book amounts flow ≡ gives (nothing_placed book amounts)) × (find_and_run_idle_flow book amounts flow ≡ flow)
    runs_idle =
        let (o, e) = some_outcome in
        let r = (ran_idle book amounts flow o e).2 in
        (e ∙ ap gives (nothing_placed_lem (problem_of book) without_pairs r), nothing_written (problem_of book) without_pairs r (length_find_and_run_idle_flow book amounts flow))

one_line : (book_file amounts_file : List ℕ) (n : Size) → (let book = take book_most book_file in let amounts = take amounts_most amounts_file in
    EmptyAmounts book amounts n
    → printed book_file amounts_file ≡ line (verdict_word (nothing_placed book amounts).verdict) (decimal 0 ∷ decimal 0 ∷ []))
unfolding printed text_of pair_lines
one_line book_file amounts_file n given =
    let book : List ℕ = take book_most book_file in
    let amounts : List ℕ = take amounts_most amounts_file in
    let (reply, _) = finds_and_runs book amounts n given (replicate 1024 0) in
    rw (reply, no_cells (problem_of book) (without_pairs book amounts n given)) (append-nil _)

pub request5 : Request5
request5 = record {
  reads = empty_reads;
  costs_of_lot = no_costs;
  cost_of_pair = never_inside;
  passes = λ book order n desk k. (passing_none book n desk order k, λ (e, shaped, count). rw e (none_passes book n desk order shaped count));
  finds = λ book buffer n desk. finds_none book n desk buffer;
  run = λ book order amounts flow n k given. runs_none book amounts n given order flow k;
  by_find_and_run = λ book amounts flow n given. finds_and_runs book amounts n given flow;
  by_find_and_run_idle = λ book amounts flow n given. runs_idle book amounts n given flow;
  no_calls = met_by_nothing;
  no_lots = stock_of_none;
  prints = one_line;
}
