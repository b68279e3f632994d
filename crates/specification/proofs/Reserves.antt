-- Stock reserved by the desk (document 02, request 7): what reading amounts of either version says, and that no run places a reserve. Amounts
-- of the right length get one of three replies, by the amounts as the file holds them and then by the reserves. A run writes an
-- allocation of what the lots hold less their reserves, and so leaves these.
use mathlib.Core.Path.{◌≡◌, refl, sym, ap, ◌∙◌}
use mathlib.Core.List.{List}
use Prim.Native.Nat.{ℕ, ◌≤◌}
use native.Mathlib.Omega.{arith}
use Rattle.transport.specs.Problem.{sum}
use Rattle.transport.proofs.Laws.Sums.{sum_cong}
use Rattle.specification.specs.Reply.{gives, Size, Outcome}
use Rattle.specification.specs.Bytes.{u32_at}
use Rattle.specification.specs.Book.{book_calls, problem_of, costs_of}
use Rattle.specification.specs.Amounts.{lot_amount, call_amount}
use Rattle.specification.specs.Run.{run_order, run_flow}
use Rattle.specification.specs.Find.{find_and_run, find_and_run_flow}
use Rattle.specification.specs.Demands.{Ran}
use Rattle.specification.specs.Entry.{Run, by_order, by_found, idle, panel, run_reply, run_leaves}
use Rattle.specification.specs.Reserves.{KeptBack, Request7}
use Rattle.specification.proofs.Replies.{said_of_given}
use Rattle.specification.proofs.Books.{BookRead}
use Rattle.specification.proofs.AmountsFiles.{AmountsRead, amounts_read}
use Rattle.specification.proofs.AmountsFiles.{amounts_length_lem}
use Rattle.specification.proofs.Runs.{run_says, ran}
use Rattle.specification.proofs.FindRuns.{find_and_run_says, find_and_run_is_run}
use Rattle.specification.proofs.IdleRuns.{idle_says, ran_idle}
use Rattle.specification.proofs.Panels.{panel_given}
use Rattle.specification.proofs.SameAmounts.{same_runs}

-- an allocation of what the lots hold less their reserves
kept_back : {book amounts before after : List ℕ} {n : Size} {x : ℕ → ℕ → ℕ} {o : Outcome} → BookRead book n → AmountsRead n amounts
    → Ran (problem_of book) (costs_of book) (lot_amount amounts) (call_amount book amounts) x before after o → KeptBack book amounts after
unfolding problem_of
kept_back {book} {amounts} {x = x} read amounts_are ran i h =
    let within : sum (book_calls book) (x i) ≤ lot_amount amounts i = ran.allocation.lot_within i h in
    let written = sum_cong (book_calls book) _ (x i) (λ j g. ran.flow i j h g) in
    let reserved = amounts_are.reserved i (rw read.sizes h) in
    omega arith

run_keeps : (book order amounts flow : List ℕ) (o : Outcome) → run_order book order amounts flow ≡ gives o
    → KeptBack book amounts (run_flow book order amounts flow)
run_keeps book order amounts flow o e =
    let (n, read, amounts_are) = (said_of_given (run_says book order amounts flow) o e).read in
    kept_back read amounts_are (ran book order amounts flow o e)

find_keeps : (book amounts flow : List ℕ) (o : Outcome) → find_and_run book amounts flow ≡ gives o
    → KeptBack book amounts (find_and_run_flow book amounts flow)
find_keeps book amounts flow o e =
    let (S, is_found, _, _) = said_of_given (find_and_run_says book amounts flow) o e in
    let (reply, writes) = find_and_run_is_run book amounts flow S is_found in
    rw writes (run_keeps book _ amounts flow o (sym reply ∙ e))

keeps : (run : Run) (book amounts flow : List ℕ) (o : Outcome) → run_reply run book amounts flow ≡ gives o
    → KeptBack book amounts (run_leaves run book amounts flow)
keeps (by_order order) book amounts flow o e = run_keeps book order amounts flow o e
keeps by_found book amounts flow o e = find_keeps book amounts flow o e
keeps idle book amounts flow o e =
    let (S, gave, _, _) = said_of_given (idle_says book amounts flow) o e in
    let (read, amounts_are) = amounts_read book amounts _ gave.allowed.reads in
    kept_back read amounts_are (ran_idle book amounts flow o e).2
keeps panel book amounts flow o e =
    let (is_found, writes) = panel_given book amounts flow o e in
    rw writes (find_keeps book amounts flow o is_found)

pub request7 : Request7
request7 = record {
  version_2 = λ n amounts lots calls two. (rw two (omega arith), λ i. rw (two, lots, calls) (ap (u32_at amounts) (omega arith)));
  version_1 = λ n amounts one. (rw one (omega arith), λ i. (rw one refl, rw one (omega arith)));
  reads_392 = refl;
  at_most_391 = λ book amounts n reads. let (read, amounts_are) = amounts_read book amounts n reads in amounts_length_lem read amounts_are;
  holds = λ book amounts n reads i h. omega (arith, (amounts_read book amounts n reads).1.reserved i h);
  calls_hold = λ book amounts n reads j.
      let lots = ap (λ m. m.lots) (amounts_read book amounts n reads).0.sizes in
      ap (u32_at amounts) (omega arith);
  keeps = keeps;
  same_runs = same_runs;
}
