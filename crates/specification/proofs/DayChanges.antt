-- What request 8 promises: a refused change leaves both buffers, an accepted one writes one field of the amounts file and leaves the earlier entries
-- of the flow; and after an accepted run every list of changes leaves the flow and the answer of a run from the beginning, since no amount of an
-- earlier pair differs (`earlier_same`).
use mathlib.Core.Path.{◌≡◌, refl, sym, ◌∙◌, ap}
use mathlib.Core.Logic.{⊎_elim}
use mathlib.Core.List.{List, [], ◌∷◌, ◌++◌, append-nil}
use Prim.Native.Nat.{ℕ, ◌+◌, ◌*◌, ◌/◌, ◌%◌, ◌≤◌, ◌<◌}
use native.Mathlib.Omega.{arith}
use borrow.Author.Tests.{le-ltb}
use lib.Dec.{T}
use lib.ListN.{length, drop}
use lib.Seq.{drop_at}
use Rattle.transport.specs.Problem.{Problem}
use Rattle.transport.specs.Greedy.{State}
use Rattle.transport.specs.Changes.{Change, concerns}
use Rattle.transport.proofs.Orders.Split.{split_at}
use Rattle.transport.proofs.Greedy.Changes.{entries_fit_says}
use Rattle.transport.proofs.Theorems.Changes.{update_is_run, update_keeps}
use Rattle.specification.specs.Reply.{gives, refuses, Never, Size, Outcome}
use Rattle.specification.specs.Book.{problem_of, costs_of}
use Rattle.specification.specs.Amounts.{amount_at, lot_amount, call_amount, read_amounts}
use Rattle.specification.specs.OrderFile.{order_pairs}
use Rattle.specification.specs.Run.{greedy_on, outcome, tabulate, flow_of, flow_too_short, run_order, run_flow}
use Rattle.specification.specs.Change.{changed_field, new_amount, is_in_book, amounts_with, flow_so_far, earlier_fit, updated_on}
use Rattle.specification.specs.Change.{change, change_amounts, change_flow}
use Rattle.specification.specs.Entry.{by_order}
use Rattle.specification.specs.Demands.{Passing}
use Rattle.specification.specs.DayChanges.{Changed, Held, after_change, after_changes, AsRun, Request8}
use Rattle.specification.proofs.Replies.{Says, giving, said_of_given, by_reply, says_known, says_then, says_unless}
use Rattle.specification.proofs.AmountsFiles.{amounts_say, amounts_read}
use Rattle.specification.proofs.Checks.{check_says, check_passes}
use Rattle.specification.proofs.Flows.{length_tabulate, flow_at}
use Rattle.specification.proofs.Runs.{RunGave, run_says, run_flow_is}
use Rattle.specification.proofs.PutNumbers.{length_put, put_same, put_other}
use Rattle.specification.proofs.ChangedFields.{field_within, earlier_eligible, earlier_same}
use Rattle.specification.proofs.Changes.{change_says, length_change_amounts, length_change_flow, gave, amounts_are, changed_ran}
use Rattle.specification.proofs.RefusedChanges.{exactly_change, accepted_change, refused_numbered, refused_by_22}
use Rattle.specification.proofs.Demands.{demand2, demand3}

-- a second flow written over a first leaves what is written alone
flow_twice : (P : Problem) (x y : ℕ → ℕ → ℕ) (flow : List ℕ) → flow_of P x (flow_of P y flow) ≡ flow_of P x flow
unfolding flow_of
flow_twice P x y flow =
    let n*m : ℕ = P.lots * P.calls in
    let front : List ℕ = tabulate n*m (λ k. y (k / P.calls) (k % P.calls)) in
    ap (λ (rest : List ℕ). tabulate n*m (λ k. x (k / P.calls) (k % P.calls)) ++ rest)
    (drop_at front (drop n*m flow) n*m (length_tabulate n*m _))

-- an accepted change
module _ (book order amounts flow : List ℕ) (c : Change) (o : Outcome) (e : change book order amounts flow c ≡ gives o) where
  its_field : new_amount c < 4294967296 → amount_at (change_amounts book order amounts flow c) (changed_field book c) ≡ new_amount c
  its_field small =
      let it = gave book order amounts flow c o e in
      let (n, reads) = it.reads in
      let (book_is, read) = amounts_read book (amounts_with book amounts c) n reads in
      let at : ℕ = 7 + 4 * changed_field book c in
      rw (amounts_are book order amounts flow c o e) (put_same amounts at (new_amount c) (omega (
        arith,
        length_put amounts at (new_amount c),
        read.whole,
        ap (λ (m : Size). m.lots) book_is.sizes,
        ap (λ (m : Size). m.calls) book_is.sizes,
        field_within book c it.inside,
      )) small)

  changed : Changed book order amounts flow c
  unfolding problem_of
  changed =
      let each_once = (gave book order amounts flow c o e).passing.each_once in
      let ran = changed_ran book order amounts flow c o e in
      record {
        its_field = its_field;
        other_bytes = λ k other. rw (amounts_are book order amounts flow c o e)
            (put_other amounts (7 + 4 * changed_field book c) (new_amount c) k other);
        earlier_stand = λ i j h.
            let (hi, hj, _) = earlier_eligible each_once (concerns c) i j h in
            ran.flow i j hi hj ∙ update_keeps each_once (concerns c) _ _ (flow_so_far book flow) i j h;
        if_none = λ none. rw (append-nil (order_pairs order)) at (split_at (concerns c) (order_pairs order) [] none tt).0;
        where_not_eligible = λ i j hi hj never. ran.flow i j hi hj ∙ ran.allocation.eligible_only i j never;
      }

-- a refused change leaves both buffers as they were
change_kept : (book order amounts flow : List ℕ) (c : Change) (k : ℕ) (vs : List ℕ) → change book order amounts flow c ≡ refuses k vs
    → (change_amounts book order amounts flow c ≡ amounts) × (change_flow book order amounts flow c ≡ flow)
unfolding change_amounts change_flow
change_kept book order amounts flow c k vs e = rw e (refl, refl)

-- the amounts of an accepted run are read with their book
module _ (book order amounts flow : List ℕ) where
  amounts_of_run : Says (λ _. (n : Size) × (read_amounts book amounts ≡ gives n)) (λ k vs. Unit {0}) (run_order book order amounts flow)
  unfolding run_order
  amounts_of_run =
      says_then _ (check_says book order) (λ k vs q. tt) (λ n _.
      says_then _ (says_known (amounts_say book amounts)) (λ k vs q. tt) (λ m (_, reads).
      says_unless (flow_too_short (problem_of book) flow) 17 _ _ (λ t. tt) (λ long. giving (m, reads))))

  run_reads : (o : Outcome) → run_order book order amounts flow ≡ gives o → (n : Size) × (read_amounts book amounts ≡ gives n)
  run_reads = said_of_given amounts_of_run

-- what is held has the flow and the answer of GREEDY from the beginning, on the buffer `first`
record AsGreedy (book order first : List ℕ) (h : Held) : Type 0 where
  reads : (n : Size) × (read_amounts book h.amounts ≡ gives n)
  held_flow : h.flow ≡ flow_of (problem_of book) (greedy_on book (order_pairs order) h.amounts).given first
  held_answer : h.answer ≡ outcome (problem_of book) (costs_of book) (greedy_on book (order_pairs order) h.amounts)

module _ (book order first : List ℕ) (passing : Passing book order) (h : Held) (as_greedy : AsGreedy book order first h) where
  -- a change brings the flow and the answer to those of a run with the new amount, and the earlier entries fit
  is_run : (c : Change) → T (is_in_book book c) → (updated_on book (order_pairs order) (amounts_with book h.amounts c) h.flow c
      ≡ greedy_on book (order_pairs order) (amounts_with book h.amounts c))
      × T (earlier_fit book (order_pairs order) (amounts_with book h.amounts c) h.flow c)
  unfolding problem_of
  is_run c inside =
      let in_book = earlier_eligible passing.each_once (concerns c) in
      let (n, reads) = as_greedy.reads in
      update_is_run passing.each_once (concerns c) (lot_amount h.amounts) (call_amount book h.amounts) _ _ (flow_so_far book h.flow)
      (λ i j listed. earlier_same book h.amounts n reads c inside (order_pairs order) i j (in_book i j listed).0 listed)
      (λ i j listed. let (hi, hj, _) = in_book i j listed in
      ap (λ (s : List ℕ). flow_so_far book s i j) as_greedy.held_flow ∙ flow_at (problem_of book) _ first i j hi hj)

  step : (c : Change) → AsGreedy book order first (after_change book order h c)
  unfolding change_amounts change_flow
  step c = by_reply (change_says book order h.amounts h.flow c)
      (λ o gave e.
      let (is, _) = is_run c gave.inside in
      rw e (record {
        reads = gave.reads;
        held_flow = ap (λ (s : State). flow_of (problem_of book) s.given h.flow) is
            ∙ ap (flow_of (problem_of book) _) as_greedy.held_flow
            ∙ flow_twice (problem_of book) _ _ first;
        held_answer = gave.outcome_is ∙ ap (outcome (problem_of book) (costs_of book)) is;
      }))
      (λ k vs q e. rw e as_greedy)

  never_22 : (c : Change) → Never 22 (change book order h.amounts h.flow c)
  unfolding problem_of
  never_22 c vs e =
      let (inside, exceeding) = refused_by_22 book order h.amounts h.flow c vs e in
      let (lots, calls) = entries_fit_says (problem_of book) _ _ _ _ (is_run c inside).1 in
      ⊎_elim (λ (i, low, above). omega (arith, lots i low)) (λ (j, low, above). omega (arith, calls j low)) exceeding

  as_run : (problem_of book).lots * (problem_of book).calls ≤ length first → AsRun book order first h
  unfolding run_order run_flow
  as_run long =
      let (answer, flow) : (run_order book order h.amounts first ≡ gives h.answer) × (run_flow book order h.amounts first ≡ h.flow) =
      rw (check_passes book order passing, as_greedy.reads.1, le-ltb _ _ long)
      (ap gives (sym as_greedy.held_answer), sym as_greedy.held_flow) in
      record {
        its_answer = answer;
        its_flow = flow;
        ran = demand2.runs (by_order order) book h.amounts first h.answer answer;
        best = demand3.best (by_order order) book h.amounts first h.answer answer;
        never_22 = never_22;
      }

steps : (book order flow : List ℕ) → Passing book order → (cs : List Change) (h : Held) → AsGreedy book order flow h
    → AsGreedy book order flow (after_changes book order h cs)
unfolding after_changes
steps book order flow passing [] h as_greedy = as_greedy
steps book order flow passing (c ∷ cs) h as_greedy =
    steps book order flow passing cs (after_change book order h c) (step book order flow passing h as_greedy c)

pub request8 : Request8
request8 = record {
  answered = λ book order amounts flow c k vs e.
      let (amounts_kept, flow_kept) = change_kept book order amounts flow c k vs e in
      ((refused_numbered book order amounts flow c k vs e).0, amounts_kept, flow_kept);
  as_long = λ book order amounts flow c. (length_change_amounts book order amounts flow c, length_change_flow book order amounts flow c);
  by_first = exactly_change;
  accepted = accepted_change;
  by_its_own = λ book order amounts flow c k vs e. (refused_numbered book order amounts flow c k vs e).1;
  ran = changed_ran;
  changed = changed;
  as_a_run = λ book order amounts flow o e cs.
      let first : RunGave book order amounts flow o = said_of_given (run_says book order amounts flow) o e in
      let held = steps book order flow first.passing cs _ (record {
        reads = run_reads book order amounts flow o e;
        held_flow = run_flow_is book order amounts flow o e;
        held_answer = first.outcome_is;
      }) in
      as_run book order flow first.passing _ held first.long;
}
