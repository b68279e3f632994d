-- The three demands, each put together from what the other files say of the entry points. Demand 3 rests on three theorems on all
-- problems: a Monge sequence is a good order, a good order is a Monge sequence, and the finder finds a Monge sequence where there is one.
use mathlib.Core.Path.{◌≡◌, refl, sym, ◌∙◌, ap}
use mathlib.Core.Logic.{◌⊎◌, inl, inr}
use mathlib.Core.List.{List, [], ◌∷◌, map}
use mathlib.Core.Option.{none}
use Prim.Native.Nat.{ℕ, ◌≤◌}
use native.Mathlib.Omega.{arith}
use lib.Dec.{ltb, ltb→lt, lit≤}
use lib.ListN.{length}
use Rattle.transport.specs.Greedy.{Pair}
use Rattle.transport.specs.Signed.{Lifts}
use Rattle.transport.specs.Finder.{find, size}
use Rattle.transport.proofs.Laws.Tests.{T_false}
use Rattle.transport.proofs.Orders.Length.{order_length_lem}
use Rattle.transport.proofs.Greedy.Converse.{monge_of_good}
use Rattle.transport.proofs.Finder.Find.{find_is_order}
use Rattle.specification.specs.Reply.{Reply, gives, refuses, Outcome}
use Rattle.specification.specs.Costs.{cost_base}
use Rattle.specification.specs.Book.{book_version, problem_of, costs_of, lot_costs}
use Rattle.specification.specs.OrderFile.{order_count, order_pairs, order_file}
use Rattle.specification.specs.Check.{check_order}
use Rattle.specification.specs.Run.{run_flow}
use Rattle.specification.specs.Find.{order_length, found_order, find_order, find_buffer, found_to_run, find_and_run, find_and_run_flow}
use Rattle.specification.specs.Idle.{found_to_run_idle, find_and_run_idle, find_and_run_idle_flow}
use Rattle.specification.specs.Entry.{Run, by_order, by_found, idle, panel, run_reply, run_leaves, Entry, reads_book, reads_amounts, costs_pair}
use Rattle.specification.specs.Entry.{checks, finds, runs, reply_of, buffers_of}
use Rattle.specification.specs.Demands.{RanBy, InTable, Answered, Demand1, Readable, OrderShaped, Passing, returned, Demand2}
use Rattle.specification.specs.Demands.{GoodOrder, BestOn, Demand3}
use Rattle.specification.proofs.Replies.{
  not_both,
  said_of_given,
  refused_before,
  by_reply,
  gives_if_never_refused,
  refused_if_never_given,
}
use Rattle.specification.proofs.Each.{each_at}
use Rattle.specification.proofs.Books.{book_read, book_reads, book_lifts, book_monge, book_good, book_limits}
use Rattle.specification.proofs.AmountsFiles.{amounts_read, amounts_within}
use Rattle.specification.proofs.LotCosts.{lot_costs_length, lot_cost_held}
use Rattle.specification.proofs.PairCosts.{pair_costs, pair_not_eligible, pair_outside}
use Rattle.specification.proofs.OwnLines.{in_table}
use Rattle.specification.proofs.Checks.{check_passes, check_passes_only}
use Rattle.specification.proofs.OrderFiles.{count_back, order_back, order_file_shaped}
use Rattle.specification.proofs.Runs.{run_says, length_run_flow, ran, passing_run_best, by_passing}
use Rattle.specification.proofs.Finds.{
  FindRefused,
  of_book,
  buffer_too_short,
  without_order,
  found_is_good,
  none_is_good,
  length_find_buffer,
  find_says,
  found_passes,
  written,
}
use Rattle.specification.proofs.FindRuns.{length_find_and_run_flow, find_and_run_says, find_and_run_is_run, ran_found}
use Rattle.specification.proofs.Bounds.{find_and_run_within}
use Rattle.specification.proofs.Largest.{largest, largest_bytes, largest_length, largest_reads}
use Rattle.specification.proofs.Printing.{prints, printing_not_17, digits_back, digits_each, digits_first}
use Rattle.specification.proofs.IdleRuns.{length_find_and_run_idle_flow, ran_idle, best_idle}
use Rattle.specification.proofs.Panels.{panel_given, panel_kept, length_panel}

-- Demand 1. A refusal leaves what is lent as it was
found_kept : (book amounts flow : List ℕ) (k : ℕ) (vs : List ℕ) → find_and_run book amounts flow ≡ refuses k vs
    → find_and_run_flow book amounts flow ≡ flow
unfolding find_and_run find_and_run_flow
found_kept book amounts flow k vs e = rw (refused_before (found_to_run book amounts flow) _ k vs e) refl

run_kept : (run : Run) (book amounts flow : List ℕ) (k : ℕ) (vs : List ℕ) → run_reply run book amounts flow ≡ refuses k vs
    → run_leaves run book amounts flow ≡ flow
unfolding run_flow find_and_run_idle find_and_run_idle_flow
run_kept (by_order order) book amounts flow k vs e = rw e refl
run_kept by_found book amounts flow k vs e = found_kept book amounts flow k vs e
run_kept idle book amounts flow k vs e = rw (refused_before (found_to_run_idle book amounts flow) _ k vs e) refl
run_kept panel book amounts flow k vs e = panel_kept book amounts flow k vs (found_kept book amounts flow k vs) e

entry_kept : (e : Entry) (k : ℕ) (vs : List ℕ) → reply_of e ≡ refuses k vs → (buffers_of e).1 ≡ (buffers_of e).0
unfolding find_order find_buffer
entry_kept (reads_book book) k vs refused = refl
entry_kept (reads_amounts book amounts) k vs refused = refl
entry_kept (costs_pair book i j) k vs refused = refl
entry_kept (checks book order) k vs refused = refl
entry_kept (finds book buffer) k vs refused =
    rw (refused_before (found_order book buffer) _ k vs (refused_before (find_order book buffer) _ k vs refused)) refl
entry_kept (runs run book amounts flow) k vs refused =
    ap (λ s. s ∷ []) (run_kept run book amounts flow k vs (refused_before (run_reply run book amounts flow) _ k vs refused))

-- and is a line of the table
entry_answered : (e : Entry) → Answered (reply_of e) (buffers_of e).0 (buffers_of e).1
entry_answered e = by_answer (reply_of e) (λ k vs refused. (in_table e k vs refused, entry_kept e k vs refused))
  where
    by_answer : (r : Reply (Unit {0})) → ((k : ℕ) (vs : List ℕ) → r ≡ refuses k vs → InTable k vs × ((buffers_of e).1 ≡ (buffers_of e).0))
        → Answered r (buffers_of e).0 (buffers_of e).1
    by_answer (gives a) is = tt
    by_answer (refuses k vs) is = is k vs refl

-- a flow buffer keeps its length, and so does every buffer
run_as_long : (run : Run) (book amounts flow : List ℕ) → length (run_leaves run book amounts flow) ≡ length flow
run_as_long (by_order order) book amounts flow = length_run_flow book order amounts flow
run_as_long by_found book amounts flow = length_find_and_run_flow book amounts flow
run_as_long idle book amounts flow = length_find_and_run_idle_flow book amounts flow
run_as_long panel book amounts flow = length_panel book amounts flow (length_find_and_run_flow book amounts flow)

entry_as_long : (e : Entry) → map length (buffers_of e).1 ≡ map length (buffers_of e).0
entry_as_long (reads_book book) = refl
entry_as_long (reads_amounts book amounts) = refl
entry_as_long (costs_pair book i j) = refl
entry_as_long (checks book order) = refl
entry_as_long (finds book buffer) = ap (λ long. long ∷ []) (length_find_buffer book buffer)
entry_as_long (runs run book amounts flow) = ap (λ long. long ∷ []) (run_as_long run book amounts flow)

pub demand1 : Demand1
unfolding lot_costs
demand1 = record {
  answered = entry_answered;
  as_long = entry_as_long;
  costs_of_refused = λ book lot k vs e. rw e refl;
  costs_outside = λ book lot n e outside. rw (e, T_false (ltb lot n.lots) (λ t. omega (arith, ltb→lt lot n.lots t))) refl;
}

-- what the finder wrote passes the check
module _ (book buffer : List ℕ) (n : ℕ) (e : find_order book buffer ≡ gives n) where
  returned_passes : Passing book (returned book buffer)
  returned_passes = let w = written book buffer n e in rw w.file (found_passes book w.order w.gave.readable w.gave.found)

  returned_count : order_count (returned book buffer) ≡ size (problem_of book)
  returned_count =
      let w = written book buffer n e in
      rw w.file (count_back w.order ∙ order_length_lem (find_is_order (problem_of book) w.order w.gave.found))

-- Demand 2
ran_by : (run : Run) (book amounts flow : List ℕ) (o : Outcome) → run_reply run book amounts flow ≡ gives o → RanBy run book amounts flow o
ran_by (by_order order) book amounts flow o e = (order_pairs order, refl, ran book order amounts flow o e)
ran_by by_found book amounts flow o e = ran_found book amounts flow o e
ran_by idle book amounts flow o e = ran_idle book amounts flow o e
ran_by panel book amounts flow o e =
    let (is_found, writes) = panel_given book amounts flow o e in
    rw writes (ran_found book amounts flow o is_found)

pub demand2 : Demand2
demand2 = record {
  book_limits = book_limits;
  largest = (largest, (_, largest_reads), largest_length, each_at largest_bytes);
  costs_of_lot = λ book n e i j (inside, few, admitted). lot_cost_held book n e i inside j few admitted;
  lot_costs_length = lot_costs_length;
  pair_costs = pair_costs;
  pair_not_eligible = pair_not_eligible;
  pair_outside = pair_outside;
  amounts_limits = λ book amounts n e.
      let (book_is, read) = amounts_read book amounts n e in
      (book_reads book n book_is, amounts_within book_is read);
  order_back = λ S. (order_file_shaped S, order_back S);
  passes = check_passes;
  only_these = check_passes_only;
  runs = ran_by;
  writes = λ book buffer n e. let w = written book buffer n e in (w.order, w.gave.found, w.contents);
  read_back = λ book buffer n e. check_passes book _ (returned_passes book buffer n e) ∙ ap gives (returned_count book buffer n e);
  by_find_and_run = λ book buffer n e amounts flow.
      let w = written book buffer n e in
      rw w.file (find_and_run_is_run book amounts flow w.order w.gave.found);
  prints = prints;
  prints_no_17 = printing_not_17;
  reads_4232 = refl;
  decimal_digits = λ n. each_at (digits_each 20 n);
  decimal_first = λ n above h. digits_first 20 n above (omega arith);
  decimal_back = λ n h. digits_back 20 n (omega arith);
  digits_17 = λ book amounts flow o e. let (few, low) = find_and_run_within book amounts flow o e in (omega arith, omega arith);
}

-- Demand 3
module _ (book buffer : List ℕ) (readable : Readable book) (long : order_length book ≤ length buffer) where
  only_13 : {k : ℕ} {vs : List ℕ} → FindRefused book buffer k vs
      → (◌≡◌ {A = Reply ℕ} (refuses k vs) (refuses 13 [])) × (find (problem_of book) ≡ none)
  only_13 (of_book q e) = absurd (not_both readable.1 e)
  only_13 (buffer_too_short _ h) = absurd (omega arith)
  only_13 (without_order _ _ e) = (refl, e)

  found_or_13 : (find_order book buffer ≡ gives (order_length book)) ⊎ (find_order book buffer ≡ refuses 13 [])
  found_or_13 = by_reply (find_says book buffer) (λ n gave e. inl (e ∙ ap gives gave.0)) (λ k vs q e. inr (e ∙ (only_13 q).0))

  lifts : Lifts (cost_base (book_version book)) (problem_of book) (costs_of book)
  lifts = book_lifts (book_read book _ readable.1)

  found_if_good : (S : List Pair) → GoodOrder (problem_of book) (costs_of book) S → find_order book buffer ≡ gives (order_length book)
  found_if_good S good =
      let (n, gave, e) = gives_if_never_refused (find_says book buffer) (λ k vs q. none_is_good lifts (only_13 q).1 S good) in
      e ∙ ap gives gave.0

  refused_if_none_good : ((S : List Pair) → GoodOrder (problem_of book) (costs_of book) S → ⊥) → find_order book buffer ≡ refuses 13 []
  refused_if_none_good never =
      let (k, vs, q, e) = refused_if_never_given (find_says book buffer)
      (λ n (_, S, gave, _). never S (found_is_good lifts S gave.found)) in
      e ∙ (only_13 q).0

-- a file that holds a good order passes
good_passes : (book order : List ℕ) → Readable book → OrderShaped order → GoodOrder (problem_of book) (costs_of book) (order_pairs order)
    → check_order book order ≡ gives (order_count order)
good_passes book order readable shaped (each_once, good) = check_passes book order (record {
  readable = readable;
  shaped = shaped;
  each_once = each_once;
  monge = (book_monge book readable _).1
      (monge_of_good _ (problem_of book) (order_pairs order) each_once ((book_good book readable _ _).0 good) (lit≤ tt));
})

-- find and run is the run by a file that passes
find_and_run_best : (book amounts flow : List ℕ) (o : Outcome) → find_and_run book amounts flow ≡ gives o → BestOn book amounts o
find_and_run_best book amounts flow o e =
    let (S, found, readable, _) = said_of_given (find_and_run_says book amounts flow) o e in
    passing_run_best book (order_file S) (found_passes book S readable found) amounts flow o
    (sym (find_and_run_is_run book amounts flow S found).0 ∙ e)

run_best : (run : Run) (book amounts flow : List ℕ) (o : Outcome) → run_reply run book amounts flow ≡ gives o → BestOn book amounts o
run_best (by_order order) book amounts flow o e =
    passing_run_best book order (said_of_given (run_says book order amounts flow) o e).passing amounts flow o e
run_best by_found book amounts flow o e = find_and_run_best book amounts flow o e
run_best idle book amounts flow o e = best_idle book amounts flow o e
run_best panel book amounts flow o e = find_and_run_best book amounts flow o (panel_given book amounts flow o e).0

pub demand3 : Demand3
demand3 = record {
  finds = found_if_good;
  or_13 = refused_if_none_good;
  one_of_two = found_or_13;
  by_returned = λ book buffer n e. ((written book buffer n e).its_length, by_passing book _ (returned_passes book buffer n e));
  by_passing = λ book order n e. by_passing book order (check_passes_only book order n e);
  good_passes = good_passes;
  best = run_best;
}
