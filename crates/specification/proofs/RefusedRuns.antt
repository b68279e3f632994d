-- Every entry point is refused exactly by its causes, by the first that applies.
use mathlib.Core.Path.{◌≡◌, refl}
use mathlib.Core.Bool.{Bool, ◌||◌}
use mathlib.Core.List.{List, []}
use mathlib.Core.Option.{Option, some, none}
use Prim.Native.Nat.{ℕ, ◌*◌}
use lib.Dec.{ltb, eqb}
use lib.IntN.{ℤ}
use lib.ListN.{length}
use Rattle.transport.specs.Problem.{Problem}
use Rattle.transport.specs.Greedy.{Pair}
use Rattle.transport.specs.Signed.{Lifts}
use Rattle.transport.specs.Finder.{find}
use Rattle.transport.proofs.Greedy.Signed.{idle_lifts}
use Rattle.specification.specs.Reply.{gives, refuses, refuse_if}
use Rattle.specification.specs.Book.{book_lots, book_calls, problem_of}
use Rattle.specification.specs.Run.{flow_too_short, run_order}
use Rattle.specification.specs.Find.{order_length, order_or13, found_order, find_order, found_to_run, find_and_run}
use Rattle.specification.specs.Idle.{enlarged, enlarged_costs, lots_total, calls_total, found_to_run_idle, find_and_run_idle}
use Rattle.specification.specs.Panel.{above_eight, read_panel, find_and_run_panel}
use Rattle.specification.specs.Entry.{Run, by_order, by_found, idle, panel, run_reply, Entry, reads_book, reads_amounts, costs_pair, checks, finds, runs, reply_of}
use Rattle.specification.specs.Refused.{no_order, flow_short, run_causes, causes_of}
use Rattle.specification.proofs.Replies.{said_of_given}
use Rattle.specification.proofs.Books.{book_read, book_lifts, head_says}
use Rattle.specification.proofs.AmountsFiles.{amounts_read}
use Rattle.specification.proofs.Finds.{found_is_good, none_is_good}
use Rattle.specification.proofs.Causes.{Exactly, exactly_nothing, exactly_if, exactly_then, exactly_gives}
use Rattle.specification.proofs.Refused.{lt_iff, eq_iff, or_iff, exactly_head, exactly_book, exactly_amounts}
use Rattle.specification.proofs.RefusedOrders.{exactly_order}

-- 13: where nothing is found no order is good
exactly_13 : {base : ℕ} {P : Problem} {c : ℕ → ℕ → ℤ} → Lifts base P c → Exactly (order_or13 P) (no_order P c)
exactly_13 {base} {P} {c} lifts = by_answer (find P) refl
  where
    by_answer : (o : Option (List Pair)) → find P ≡ o → Exactly {A = List Pair} (elim o [ none ↦ refuses 13 [] | some S ↦ gives S ]) (no_order P c)
    by_answer none e = λ k vs. (λ is. (cc, cc, none_is_good lifts e), λ (number, values, _). rw (number, values) refl)
    by_answer (some S) e = exactly_nothing (λ k vs (_, _, never). never S (found_is_good lifts S e))

-- 17
pub exactly_flow : (book flow : List ℕ) → Exactly (refuse_if (flow_too_short (problem_of book) flow) 17 []) (flow_short book flow)
unfolding problem_of
exactly_flow book flow = exactly_if (ltb (length flow) (book_lots book * book_calls book)) 17 [] (lt_iff (length flow) (book_lots book * book_calls book))

exactly_found : (book amounts flow : List ℕ) → Exactly (find_and_run book amounts flow) (run_causes by_found book amounts flow)
unfolding find_and_run found_to_run
exactly_found book amounts flow = exactly_gives _ _
    (exactly_then _ _ _ (exactly_amounts book amounts) (λ n reads.
    exactly_then _ _ _ (exactly_flow book flow) (λ _ _.
    exactly_13 (book_lifts (amounts_read book amounts n reads).0))))

exactly_run : (run : Run) (book amounts flow : List ℕ) → Exactly (run_reply run book amounts flow) (run_causes run book amounts flow)
unfolding run_order find_and_run_idle found_to_run_idle find_and_run_panel read_panel
exactly_run (by_order order) book amounts flow =
    exactly_then _ _ _ (exactly_order book order) (λ _ _.
    exactly_then _ _ _ (exactly_amounts book amounts) (λ _ _.
    exactly_gives (refuse_if (flow_too_short (problem_of book) flow) 17 []) _ (exactly_flow book flow)))
exactly_run by_found book amounts flow = exactly_found book amounts flow
exactly_run idle book amounts flow =
    let (lots, calls) : ℕ × ℕ = (lots_total book amounts, calls_total book amounts) in
    exactly_gives _ _
    (exactly_then _ _ _ (exactly_amounts book amounts) (λ n reads.
    exactly_then _ _ _ (exactly_if (ltb lots calls) 18 [] (lt_iff lots calls)) (λ _ _.
    exactly_then _ _ _ (exactly_if (eqb (book_calls book) 32) 19 [] (eq_iff (book_calls book) 32)) (λ _ _.
    exactly_then _ _ _ (exactly_flow book flow) (λ _ _.
    exactly_13 {P = enlarged book} {c = enlarged_costs book} (idle_lifts (book_lifts (amounts_read book amounts n reads).0)))))))
exactly_run panel book amounts flow =
    let (many_lots, many_calls) : Bool × Bool = (above_eight (book_lots book), above_eight (book_calls book)) in
    exactly_then _ _ _
    (exactly_then _ _ _ (exactly_head book) (λ n e.
    rw (said_of_given (head_says book) n e).0
    (exactly_gives (refuse_if (many_lots || many_calls) 20 []) _
    (exactly_if (many_lots || many_calls) 20 [] (or_iff many_lots many_calls (lt_iff 8 (book_lots book)) (lt_iff 8 (book_calls book)))))))
    (λ _ _. exactly_found book amounts flow)

pub refused_by_first : (e : Entry) → Exactly (reply_of e) (causes_of e)
unfolding find_order found_order
refused_by_first (reads_book book) = exactly_gives _ _ (exactly_book book)
refused_by_first (reads_amounts book amounts) = exactly_gives _ _ (exactly_amounts book amounts)
refused_by_first (costs_pair book i j) = exactly_gives _ _ (exactly_gives _ _ (exactly_book book))
refused_by_first (checks book order) = exactly_gives _ _ (exactly_order book order)
refused_by_first (finds book buffer) = exactly_gives _ _ (exactly_gives _ _
    (exactly_then _ _ _ (exactly_book book) (λ n reads.
    exactly_then _ _ _ (exactly_if (ltb (length buffer) (order_length book)) 17 [] (lt_iff (length buffer) (order_length book))) (λ _ _.
    exactly_13 (book_lifts (book_read book n reads))))))
refused_by_first (runs run book amounts flow) = exactly_gives _ _ (exactly_run run book amounts flow)
