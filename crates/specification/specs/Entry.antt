-- The entry points, each with what it is handed, so that what holds of them all is said once.
use Rattle.std.specs.Prelude.{◌≡◌, List, [], ◌∷◌, ℕ}
use Rattle.std.proofs.Math.Option.{some}
use Rattle.transport.specs.Greedy.{Pair, State}
use Rattle.transport.specs.Finder.{find}
use Rattle.specification.specs.Reply.{Reply, gives, ◌>>=◌, Outcome}
use Rattle.specification.specs.Book.{read_book, problem_of, pair_cost}
use Rattle.specification.specs.Amounts.{read_amounts}
use Rattle.specification.specs.OrderFile.{order_pairs}
use Rattle.specification.specs.Check.{check_order}
use Rattle.specification.specs.Run.{greedy_on, run_order, run_flow}
use Rattle.specification.specs.Find.{find_order, find_buffer, find_and_run, find_and_run_flow}
use Rattle.specification.specs.Idle.{enlarged, greedy_idle_on, find_and_run_idle, find_and_run_idle_flow}
use Rattle.specification.specs.Panel.{find_and_run_panel, find_and_run_panel_flow}

-- the runs: by an order file; and by the order found, in one call: plain, with an idle call (document 02, request 2), for the ticket panel (request 6)
pub data Run : Type 0 where
  by_order : List ℕ → Run
  by_found idle panel : Run

-- what a run replies to book, amounts and a flow buffer
abbrev pub run_reply : Run → List ℕ → List ℕ → List ℕ → Reply Outcome
run_reply (by_order order) book amounts flow = run_order book order amounts flow
run_reply by_found book amounts flow = find_and_run book amounts flow
run_reply idle book amounts flow = find_and_run_idle book amounts flow
run_reply panel book amounts flow = find_and_run_panel book amounts flow

-- and its flow buffer afterwards
abbrev pub run_leaves : Run → List ℕ → List ℕ → List ℕ → List ℕ
run_leaves (by_order order) book amounts flow = run_flow book order amounts flow
run_leaves by_found book amounts flow = find_and_run_flow book amounts flow
run_leaves idle book amounts flow = find_and_run_idle_flow book amounts flow
run_leaves panel book amounts flow = find_and_run_panel_flow book amounts flow

-- how it comes by its order: from the file, or found for the book, with an idle call for the enlarged book
abbrev pub ItsOrder : Run → List ℕ → List Pair → Type 0
ItsOrder (by_order order) book S = S ≡ order_pairs order
ItsOrder by_found book S = find (problem_of book) ≡ some S
ItsOrder idle book S = find (enlarged book) ≡ some S
ItsOrder panel book S = find (problem_of book) ≡ some S

-- GREEDY's last state by that order, with an idle call what is the book's own of it
abbrev pub last_state : Run → List ℕ → List Pair → List ℕ → State
last_state (by_order order) book S amounts = greedy_on book S amounts
last_state by_found book S amounts = greedy_on book S amounts
last_state idle book S amounts = greedy_idle_on book S amounts
last_state panel book S amounts = greedy_on book S amounts

-- reading a book, or amounts with their book; the cost of one pair; checking an order; finding one, into a buffer; and the runs. The costs of a
-- lot have no refusals, and the printing program prints a run's reply
pub data Entry : Type 0 where
  reads_book : (book : List ℕ) → Entry
  reads_amounts : (book amounts : List ℕ) → Entry
  costs_pair : (book : List ℕ) (i j : ℕ) → Entry
  checks : (book order : List ℕ) → Entry
  finds : (book buffer : List ℕ) → Entry
  runs : Run → (book amounts flow : List ℕ) → Entry

-- its reply, but for the value that it gives
abbrev pub reply_of : Entry → Reply (Unit {0})
reply_of (reads_book book) = read_book book >>= λ _. gives tt
reply_of (reads_amounts book amounts) = read_amounts book amounts >>= λ _. gives tt
reply_of (costs_pair book i j) = pair_cost book i j >>= λ _. gives tt
reply_of (checks book order) = check_order book order >>= λ _. gives tt
reply_of (finds book buffer) = find_order book buffer >>= λ _. gives tt
reply_of (runs run book amounts flow) = run_reply run book amounts flow >>= λ _. gives tt

-- the buffers that it is lent, and the same afterwards
abbrev pub buffers_of : Entry → List (List ℕ) × List (List ℕ)
buffers_of (reads_book book) = ([], [])
buffers_of (reads_amounts book amounts) = ([], [])
buffers_of (costs_pair book i j) = ([], [])
buffers_of (checks book order) = ([], [])
buffers_of (finds book buffer) = (buffer ∷ [], find_buffer book buffer ∷ [])
buffers_of (runs run book amounts flow) = (flow ∷ [], run_leaves run book amounts flow ∷ [])
