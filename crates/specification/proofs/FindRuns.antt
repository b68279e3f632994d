-- Finding and running in one call: it replies and writes as the run by the order found.
use mathlib.Core.Path.{◌≡◌, refl, sym, ◌∙◌, ap}
use mathlib.Core.Bool.{Bool, true, false}
use mathlib.Core.List.{List, []}
use mathlib.Core.Option.{some, none}
use Prim.Native.Nat.{ℕ, ◌*◌, ◌≤◌, ◌<◌}
use lib.Dec.{ltb→lt, nltb→le}
use lib.ListN.{length}
use Rattle.transport.specs.Greedy.{Pair}
use Rattle.transport.specs.Finder.{find}
use Rattle.specification.specs.Reply.{Reply, gives, refuses, ◌>>=◌, refuse_if, afterwards, Size, Outcome}
use Rattle.specification.specs.Book.{read_book, problem_of, costs_of}
use Rattle.specification.specs.Amounts.{read_amounts}
use Rattle.specification.specs.OrderFile.{order_count, order_pairs, order_file}
use Rattle.specification.specs.Check.{check_order}
use Rattle.specification.specs.Run.{greedy_on, outcome, flow_too_short, run_order, run_flow}
use Rattle.specification.specs.Find.{order_or13, found_to_run, find_and_run, find_and_run_flow}
use Rattle.specification.specs.Entry.{by_found}
use Rattle.specification.specs.Demands.{Readable, RanBy}
use Rattle.specification.proofs.Replies.{Says, giving, gives_less, says_known, says_then, says_unless}
use Rattle.specification.proofs.Replies.{said_of_given, says_afterwards}
use Rattle.specification.proofs.AmountsFiles.{AmountsOrBookRefused, amounts_say, book_of_amounts}
use Rattle.specification.proofs.Checks.{check_passes}
use Rattle.specification.proofs.OrderFiles.{order_back}
use Rattle.specification.proofs.Flows.{length_flow_of}
use Rattle.specification.proofs.Runs.{ran}
use Rattle.specification.proofs.Finds.{or_13_says, found_passes}

pub data FindRunRefused (book amounts flow : List ℕ) : ℕ → List ℕ → Type 0 where
  of_amounts : {k : ℕ} {vs : List ℕ} → AmountsOrBookRefused book amounts k vs → read_amounts book amounts ≡ refuses k vs
      → FindRunRefused book amounts flow k vs
  too_short_flow : {n : Size} → read_amounts book amounts ≡ gives n → length flow < (problem_of book).lots * (problem_of book).calls
      → FindRunRefused book amounts flow 17 []
  without_order : {n : Size} → read_amounts book amounts ≡ gives n → (problem_of book).lots * (problem_of book).calls ≤ length flow
      → find (problem_of book) ≡ none → FindRunRefused book amounts flow 13 []

pub found_to_run_says : (book amounts flow : List ℕ)
    → Says (λ S. (find (problem_of book) ≡ some S) × ((problem_of book).lots * (problem_of book).calls ≤ length flow) × Readable book)
    (FindRunRefused book amounts flow) (found_to_run book amounts flow)
unfolding found_to_run
found_to_run_says book amounts flow =
    says_then _ (says_known (amounts_say book amounts)) (λ k vs (q, e). of_amounts q e) (λ n (_, reads).
    says_unless (flow_too_short (problem_of book) flow) 17 _ _ (λ t. too_short_flow reads (ltb→lt _ _ t)) (λ long.
    let enough = nltb→le (length flow) ((problem_of book).lots * (problem_of book).calls) long in
    let readable : Readable book = (n, book_of_amounts book amounts n reads) in
    gives_less (or_13_says (problem_of book) (without_order reads enough)) (λ S found. (found, enough, readable))))

-- the flow buffer keeps its length
pub length_find_and_run_flow : (book amounts flow : List ℕ) → length (find_and_run_flow book amounts flow) ≡ length flow
unfolding find_and_run_flow
length_find_and_run_flow book amounts flow = says_afterwards flow _ (λ s. length s ≡ length flow) (found_to_run_says book amounts flow) refl
    (λ S (found, long, _). length_flow_of (problem_of book) _ flow long)

pub find_and_run_says : (book amounts flow : List ℕ)
    → Says (λ o. (S : List Pair) × (find (problem_of book) ≡ some S) × Readable book
    × (o ≡ outcome (problem_of book) (costs_of book) (greedy_on book S amounts)))
    (FindRunRefused book amounts flow) (find_and_run book amounts flow)
unfolding find_and_run
find_and_run_says book amounts flow = says_then _ (found_to_run_says book amounts flow) (λ k vs q. q)
    (λ S (found, long, readable). giving (S, found, readable, refl))

-- the two calls take the same steps once the order is found and has passed: r reads the amounts, and `short` tests the buffer
same_steps : {A B : Type 0} (r : Reply Size) (short : Bool) (answer : Reply A) (S : A) → answer ≡ gives S
    → (F : A → B) (old : List ℕ) (new : A → List ℕ)
    → let found : Reply A = r >>= λ _. refuse_if short 17 [] >>= λ _. answer in
    let run : Reply B = r >>= λ _. refuse_if short 17 [] >>= λ _. gives (F S) in
    ((found >>= λ S. gives (F S)) ≡ run) × (afterwards found old new ≡ afterwards run old (λ _. new S))
same_steps (gives n) true answer S e F old new = (refl, refl)
same_steps (gives n) false answer S e F old new = rw e (refl, refl)
same_steps (refuses k vs) short answer S e F old new = (refl, refl)

module _ (book : List ℕ) (k : ℕ) (vs : List ℕ) (e : read_book book ≡ refuses k vs) where
  amounts_refused : (amounts : List ℕ) → read_amounts book amounts ≡ refuses k vs
  unfolding read_amounts
  amounts_refused amounts = rw e refl

  check_refused_too : (order : List ℕ) → check_order book order ≡ refuses k vs
  unfolding check_order
  check_refused_too order = rw e refl

-- an order file that holds the order found, and passes the check unless the book is refused
module _ (book order amounts flow : List ℕ) (found : find (problem_of book) ≡ some (order_pairs order))
    (passes : Readable book → check_order book order ≡ gives (order_count order)) where
  find_and_run_as : (find_and_run book amounts flow ≡ run_order book order amounts flow)
      × (find_and_run_flow book amounts flow ≡ run_flow book order amounts flow)
  unfolding found_to_run find_and_run find_and_run_flow run_order run_flow
  find_and_run_as = by_book (read_book book) refl
    where
      by_book : (r : Reply Size) → read_book book ≡ r → (find_and_run book amounts flow ≡ run_order book order amounts flow)
          × (find_and_run_flow book amounts flow ≡ run_flow book order amounts flow)
      by_book (gives n) e =
          rw (passes (n, e)) (same_steps (read_amounts book amounts) (flow_too_short (problem_of book) flow) (order_or13 (problem_of book)) _
          (rw (found, order_or13) refl) _ flow _)
      by_book (refuses k vs) e = rw (amounts_refused book k vs e amounts, check_refused_too book k vs e order) (refl, refl)

pub find_and_run_is_run : (book amounts flow : List ℕ) (S : List Pair) → find (problem_of book) ≡ some S
    → (find_and_run book amounts flow ≡ run_order book (order_file S) amounts flow)
    × (find_and_run_flow book amounts flow ≡ run_flow book (order_file S) amounts flow)
find_and_run_is_run book amounts flow S found = find_and_run_as book (order_file S) amounts flow (found ∙ ap some (sym (order_back S)))
    (λ readable. check_passes book (order_file S) (found_passes book S readable found))

-- so it writes and replies what GREEDY by that order does
pub ran_found : (book amounts flow : List ℕ) (o : Outcome) → find_and_run book amounts flow ≡ gives o
    → RanBy by_found book amounts flow o
ran_found book amounts flow o e =
    let (S, is_found, _, _) = said_of_given (find_and_run_says book amounts flow) o e in
    let (reply, writes) = find_and_run_is_run book amounts flow S is_found in
    (S, is_found, rw writes (rw (order_back S) at (ran book (order_file S) amounts flow o (sym reply ∙ e))))
