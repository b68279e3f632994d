-- Amounts files that are read with a book and have the same amounts of its lots and calls are run alike: each call takes the same steps by either,
-- and GREEDY by an order of the book, or of the enlarged book, ends in states that agree in all that the reply and the flow look at.
use mathlib.Core.Path.{◌≡◌, refl, ap, ap₂}
use mathlib.Core.List.{List, []}
use Prim.Native.Nat.{ℕ, ◌<◌}
use lib.Dec.{eqb}
use lib.IntN.{ℤ}
use Rattle.transport.specs.Problem.{Problem, units}
use Rattle.transport.specs.Greedy.{Pair, State}
use Rattle.transport.specs.Signed.{signed_cost}
use Rattle.transport.proofs.Laws.Sums.{sum_cong}
use Rattle.transport.proofs.Laws.Searches.{every_same}
use Rattle.transport.proofs.Greedy.Agreeing.{SameAt, Agreeing, greedy_agreeing, idle_agreeing}
use Rattle.transport.proofs.Finder.Find.{find_is_order}
use Rattle.specification.specs.Reply.{Reply, gives, refuse_if, ◌>>=◌, afterwards, Outcome}
use Rattle.specification.specs.Costs.{cost_base}
use Rattle.specification.specs.Book.{book_version, problem_of, costs_of}
use Rattle.specification.specs.Amounts.{lot_amount, call_amount}
use Rattle.specification.specs.Run.{all_zero, verdict_by, outcome, flow_of, flow_too_short, run_order, run_flow}
use Rattle.specification.specs.Find.{found_to_run, find_and_run, find_and_run_flow}
use Rattle.specification.specs.Idle.{enlarged, found_to_run_idle, find_and_run_idle, find_and_run_idle_flow}
use Rattle.specification.specs.Panel.{read_panel, find_and_run_panel, find_and_run_panel_flow}
use Rattle.specification.specs.Entry.{Run, by_order, by_found, idle, panel, run_reply, run_leaves}
use Rattle.specification.specs.Reserves.{SameAmounts}
use Rattle.specification.proofs.Replies.{Says, by_reply}
use Rattle.specification.proofs.Checks.{check_says}
use Rattle.specification.proofs.FindRuns.{found_to_run_says}
use Rattle.specification.proofs.IdleRuns.{found_idle_says}

-- of two functions that are the same below n, both are 0 there or neither is
all_zero_same : (n : ℕ) (f g : ℕ → ℕ) → ((k : ℕ) → k < n → f k ≡ g k) → all_zero n f ≡ all_zero n g
all_zero_same n f g h = every_same n _ _ (λ k l. ap (λ v. eqb v 0) (h k l))

-- states that agree have one outcome, and write one flow
module _ {P : Problem} {s t : State} (agreeing : Agreeing P s t) where
  outcome_same : (c : ℕ → ℕ → ℤ) → outcome P c s ≡ outcome P c t
  outcome_same c =
      let calls = all_zero_same P.calls s.lacks t.lacks agreeing.same_lacks in
      let lots = all_zero_same P.lots s.left t.left agreeing.same_left in
      λ k. record {
        verdict = verdict_by (calls k) (lots k);
        units = units P (agreeing.same_given k);
        cost = signed_cost P c (agreeing.same_given k);
      }

  flow_same : (flow : List ℕ) → flow_of P s.given flow ≡ flow_of P t.given flow
  flow_same flow = ap (λ x. flow_of P x flow) agreeing.same_given

-- so a call that runs the order it finds replies and writes the same by either
found_run_same : (P : Problem) (c : ℕ → ℕ → ℤ) (flow : List ℕ) {G : List Pair → Type 0} {Q : ℕ → List ℕ → Type 0} {r : Reply (List Pair)}
    → Says G Q r → (by by' : List Pair → State) → ((S : List Pair) → G S → Agreeing P (by S) (by' S))
    → ((r >>= λ S. gives (outcome P c (by S))) ≡ (r >>= λ S. gives (outcome P c (by' S))))
    × (afterwards r flow (λ S. flow_of P (by S).given flow) ≡ afterwards r flow (λ S. flow_of P (by' S).given flow))
found_run_same P c flow says by by' agreeing = by_reply says
    (λ S g e. rw e (ap gives (outcome_same (agreeing S g) c), flow_same (agreeing S g) flow))
    (λ k vs q e. rw e (refl, refl))

module _ (book s t flow : List ℕ) (same : SameAmounts book s t) where
  same_at : SameAt (problem_of book) (lot_amount s) (call_amount book s) (lot_amount t) (call_amount book t)
  unfolding problem_of
  same_at = record { lots = same.lots; calls = same.calls }

  -- running an order: one that passes holds pairs of the book alone
  run_same : (order : List ℕ) → (run_order book order s flow ≡ run_order book order t flow)
      × (run_flow book order s flow ≡ run_flow book order t flow)
  unfolding run_order run_flow
  run_same order = by_reply (check_says book order)
      (λ n (_, passing) e.
      let agreeing = greedy_agreeing passing.each_once same_at in
      let is = outcome_same agreeing (costs_of book) in
      let reply : Outcome → Reply Outcome = λ o. refuse_if (flow_too_short (problem_of book) flow) 17 [] >>= λ _. gives o in
      rw (e, same.reads.1, same.reads.2) (
        ap reply is,
        ap₂ (λ o w. afterwards (reply o) flow (λ _. w)) is (flow_same agreeing flow),
      ))
      (λ k vs q e. rw e (refl, refl))

  -- the same order is found, or the same refusal
  found_same : found_to_run book s flow ≡ found_to_run book t flow
  unfolding found_to_run
  found_same = rw (same.reads.1, same.reads.2)

  found_idle_same : found_to_run_idle book s flow ≡ found_to_run_idle book t flow
  unfolding found_to_run_idle
  found_idle_same = rw (same.reads.1, same.reads.2, sum_cong _ _ _ same_at.lots, sum_cong _ _ _ same_at.calls)

  find_and_run_same : (find_and_run book s flow ≡ find_and_run book t flow) × (find_and_run_flow book s flow ≡ find_and_run_flow book t flow)
  unfolding find_and_run find_and_run_flow
  find_and_run_same = rw found_same (found_run_same (problem_of book) (costs_of book) flow (found_to_run_says book t flow) _ _
      (λ S (is_found, _, _). greedy_agreeing (find_is_order (problem_of book) S is_found) same_at))

  idle_same : (find_and_run_idle book s flow ≡ find_and_run_idle book t flow) × (find_and_run_idle_flow book s flow ≡ find_and_run_idle_flow book t flow)
  unfolding find_and_run_idle find_and_run_idle_flow
  idle_same = rw found_idle_same (found_run_same (problem_of book) (costs_of book) flow (found_idle_says book t flow) _ _
      (λ S gave. idle_agreeing (cost_base (book_version book)) (find_is_order (enlarged book) S gave.found) same_at))

  panel_same : (find_and_run_panel book s flow ≡ find_and_run_panel book t flow)
      × (find_and_run_panel_flow book s flow ≡ find_and_run_panel_flow book t flow)
  unfolding find_and_run_panel find_and_run_panel_flow
  panel_same = (
    ap (λ r. read_panel book >>= λ _. r) find_and_run_same.0,
    ap (λ w. afterwards (read_panel book) flow (λ _. w)) find_and_run_same.1,
  )

-- so every run replies and writes the same
pub same_runs : (run : Run) (book s t flow : List ℕ) → SameAmounts book s t
    → (run_reply run book s flow ≡ run_reply run book t flow) × (run_leaves run book s flow ≡ run_leaves run book t flow)
same_runs (by_order order) book s t flow same = run_same book s t flow same order
same_runs by_found book s t flow same = find_and_run_same book s t flow same
same_runs idle book s t flow same = idle_same book s t flow same
same_runs panel book s t flow same = panel_same book s t flow same
