-- Finding and running past the refusals of the files: each way out is what the definition says, and what the search leaves is what a run
-- asks for. And both entry points are that, after their own refusals.
use Rattle.std.specs.Prelude.{Ok}
use mathlib.Core.Path.{◌≡◌, refl, sym, ◌∙◌, ap}
use mathlib.Core.Logic.{◌⊎◌, inl, inr, by_cases}
use mathlib.Core.Bool.{Bool, true, false, ◌||◌}
use mathlib.Core.List.{List, []}
use mathlib.Core.Option.{Option, some, none}
use Prim.Native.Nat.{ℕ, ◌+◌, ◌*◌, ◌≤◌, ◌<◌}
use native.Mathlib.Nat.{le_refl}
use native.Mathlib.Decide.{ℕ_discrete}
use native.Mathlib.Omega.{arith}
use borrow.Author.Tests.{lt-ltb, le-ltb, ne_eqb}
use lib.Dec.{nltb→le}
use lib.ListN.{length, take}
use Rattle.transport.specs.Problem.{Problem, Eligible}
use Rattle.transport.specs.Greedy.{Pair, start, greedy}
use Rattle.transport.specs.Order.{times}
use Rattle.transport.specs.Finder.{find}
use Rattle.transport.specs.Idle.{idle_amount, idle_amounts, real_part}
use Rattle.transport.proofs.Orders.Lists.{Lists, lists_of_order}
use Rattle.transport.proofs.Greedy.Idle.{pair_real}
use Rattle.transport.proofs.Finder.Find.{find_is_order}
use Rattle.specification.specs.declared.Placed.{Placed}
use Rattle.specification.specs.Reply.{Reply, gives, refuses, ◌>>=◌, afterwards, Size, outcome_of}
use Rattle.specification.specs.Costs.{cost_base}
use Rattle.specification.specs.Book.{book_version, book_lots, book_calls, read_head, read_book, problem_of, costs_of}
use Rattle.specification.specs.Amounts.{lot_amount, call_amount, read_amounts}
use Rattle.specification.specs.Run.{outcome, flow_of, flow_too_short}
use Rattle.specification.specs.Find.{order_or13, found_to_run, find_and_run, find_and_run_flow}
use Rattle.specification.specs.Idle.{enlarged, lots_total, calls_total, found_to_run_idle, find_and_run_idle, find_and_run_idle_flow}
use Rattle.specification.specs.Panel.{above_eight, read_panel}
use Rattle.specification.proofs.Replies.{not_both, neither_of_or, said_of_given}
use Rattle.specification.proofs.Books.{head_says, headed_reads}
use Rattle.book.proofs.Readable.{counts_are}
use Rattle.finder.specs.Searched.{searched}
use Rattle.finder.proofs.Books.{searched_within}
use Rattle.remaining.specs.declared.Remaining.{Remaining}
use Rattle.remaining.specs.States.{HoldsState, Loaded, OneCallMore}
use Rattle.remaining.specs.Replies.{ShowsEnd}
use Rattle.remaining.proofs.Loading.{lots_are, calls_are, long_enough, loaded_holds}
use Rattle.run.specs.Run.{pairs_of, Accepted, Spans, AsGreedy}
use Rattle.run.proofs.Supplied.{real_part_is}
use Rattle.placer.specs.Placing.{Supplied, found_for, placed_by, flow_by, Places}
use Rattle.placer.proofs.Found.{IsFile, pairs_are, is_order, as_many}

-- n and m that the panel reads are at most 8
pub panel_few : (book : List ℕ) (size : Size) → read_panel book ≡ gives size → (book_lots book ≤ 8) × (book_calls book ≤ 8)
unfolding read_panel
panel_few book size e = by_head (read_head book) refl
  where
    by_tests : read_head book ≡ gives (record { lots = book_lots book; calls = book_calls book })
        → (above : Bool) → (above_eight (book_lots book) || above_eight (book_calls book)) ≡ above → (book_lots book ≤ 8) × (book_calls book ≤ 8)
    by_tests head true t =
        let q : refuses 20 [] ≡ gives size = rw (head, t) at e in
        absurd (not_both q refl)
    by_tests head false t =
        let (lots, calls) = neither_of_or (above_eight (book_lots book)) (above_eight (book_calls book)) (rw t tt) in
        (nltb→le _ _ lots, nltb→le _ _ calls)

    by_head : (r : Reply Size) → read_head book ≡ r → (book_lots book ≤ 8) × (book_calls book ≤ 8)
    by_head (refuses k vs) q =
        let refused : refuses k vs ≡ gives size = rw q at e in
        absurd (not_both refused refl)
    by_head (gives n) q = by_tests (headed_reads book (said_of_given (head_says book) n q).1) _ refl

module _ (book : List ℕ) (E : Problem) (a b : ℕ → ℕ) (flow : List ℕ) where
  pub places_17 : flow_too_short (problem_of book) flow ≡ true → (refuses 17 [] ≡ placed_by book E a b flow) × (flow ≡ flow_by book E a b flow)
  places_17 short = rw short (refl, refl)

  -- the flow is long enough
  module _ (long : flow_too_short (problem_of book) flow ≡ false) where
    pub places_13 : find E ≡ none → (refuses 13 [] ≡ placed_by book E a b flow) × (flow ≡ flow_by book E a b flow)
    places_13 found = rw (long, found, order_or13) (refl, refl)

    places_run : (S : List Pair) → find E ≡ some S → (reply : Placed) (flow' : List ℕ)
        → ShowsEnd (problem_of book) (costs_of book) (real_part (problem_of book) (greedy S a b)) flow reply flow'
        → (gives (outcome_of reply) ≡ placed_by book E a b flow) × (flow' ≡ flow_by book E a b flow)
    places_run S found reply flow' ran = rw (long, found, order_or13) (ap gives ran.reply_is, ran.flow_is)

-- the search has left a file
module _ (book : List ℕ) (n m : ℕ) (reads : read_book book ≡ gives (record { lots = n; calls = m })) (idle : Bool) (r : Remaining 32)
    (given : Supplied n m idle r) (after : List ℕ) (count : ℕ) (file : IsFile (searched idle book) after count) where
  abbrev P : Problem
  P = problem_of book

  abbrev S : List Pair
  S = pairs_of (take (7 + 2 * count) after) count

  sized : (n ≡ P.lots) × (m ≡ P.calls)
  sized = (lots_are book _ reads, calls_are book _ reads)

  listed : Lists (searched idle book) S
  listed = rw (pairs_are _ after count file) (lists_of_order (is_order _ after count file))

  pub few : count ≤ 1024
  few = omega (arith, as_many _ after count file, searched_within (counts_are book (sym reads)) idle given.room)

  -- its pairs are eligible in the book, or those of the idle call
  in_place : (i j : ℕ) → 0 < times i j S → Eligible P i j ⊎ ((i < n) × (j ≡ m) × (m < 32))
  in_place i j h = by_idle idle refl (listed.eligible i j h)
    where
      by_idle : (b : Bool) → idle ≡ b → Eligible (searched b book) i j → Eligible P i j ⊎ ((i < n) × (j ≡ m) × (m < 32))
      by_idle false _ e = inl e
      by_idle true is e = by_cases (ℕ_discrete j P.calls)
          (λ at. inr (omega (arith, e.0, sized.0), at ∙ sym sized.1, given.room is))
          (λ ne. inl (pair_real (cost_base (book_version book)) P i j ne e))

  spans : Spans P S (searched idle book).calls
  spans = record { own = own idle; listed = λ i j h. (listed.eligible i j h).1 }
    where
      own : (b : Bool) → P.calls ≤ (searched b book).calls
      own false = le_refl P.calls
      own true = omega arith

  module _ (flow : List ℕ) (long : n * m ≤ length flow) where
    pub run_accepted : Accepted (take (7 + 2 * count) after) count n m r book (length flow)
    run_accepted = record { few_pairs = few; eligible = in_place; once = listed.once; fits = given.fits; flow_long = long }

    pub run_places : (reply : Placed) (flow' : List ℕ) → AsGreedy S r P (costs_of book) flow reply flow' → Places idle book r flow (Ok reply) flow'
    run_places reply flow' as_greedy a b holds =
        let ran = rw (pairs_are _ after count file) at (as_greedy (searched idle book).calls a b spans holds) in
        places_run book (searched idle book) a b flow (long_enough book _ reads flow long) file.order file.found reply flow' ran

-- the entry points, once the amounts are read
module _ (book amounts flow : List ℕ) (size : Size) (read : read_amounts book amounts ≡ gives size) where
  abbrev a : ℕ → ℕ
  a = lot_amount amounts

  abbrev b : ℕ → ℕ
  b = call_amount book amounts

  pub plain_is : (find_and_run book amounts flow ≡ placed_by book (problem_of book) a b flow)
      × (find_and_run_flow book amounts flow ≡ flow_by book (problem_of book) a b flow)
  unfolding found_to_run find_and_run find_and_run_flow
  plain_is = rw read (by_tests (flow_too_short (problem_of book) flow) refl (find (problem_of book)) refl)
    where
      by_tests : (short : Bool) → flow_too_short (problem_of book) flow ≡ short → (o : Option (List Pair)) → find (problem_of book) ≡ o
          → ((found_for book (problem_of book) flow >>= λ S. gives (outcome (problem_of book) (costs_of book) (greedy S a b)))
          ≡ placed_by book (problem_of book) a b flow)
          × (afterwards (found_for book (problem_of book) flow) flow (λ S. flow_of (problem_of book) (greedy S a b).given flow)
          ≡ flow_by book (problem_of book) a b flow)
      by_tests true t o f = rw t (refl, refl)
      by_tests false t none f = rw (t, f, order_or13) (refl, refl)
      by_tests false t (some found) f =
          let eligible = (lists_of_order (find_is_order (problem_of book) found f)).eligible in
          let same = sym (real_part_is (problem_of book) found eligible a b) in
          rw (t, f, order_or13)
          (ap (λ s. gives (outcome (problem_of book) (costs_of book) s)) same, ap (λ s. flow_of (problem_of book) s.given flow) same)

  pub refused_by_18 : lots_total book amounts < calls_total book amounts
      → (refuses 18 [] ≡ find_and_run_idle book amounts flow) × (flow ≡ find_and_run_idle_flow book amounts flow)
  unfolding found_to_run_idle find_and_run_idle find_and_run_idle_flow
  refused_by_18 exceeds = rw (read, lt-ltb (lots_total book amounts) (calls_total book amounts) exceeds) (refl, refl)

  pub refused_by_19 : calls_total book amounts ≤ lots_total book amounts → book_calls book ≡ 32
      → (refuses 19 [] ≡ find_and_run_idle book amounts flow) × (flow ≡ find_and_run_idle_flow book amounts flow)
  unfolding found_to_run_idle find_and_run_idle find_and_run_idle_flow
  refused_by_19 enough all = rw (read, le-ltb (lots_total book amounts) (calls_total book amounts) enough, all) (refl, refl)

  pub idle_is : calls_total book amounts ≤ lots_total book amounts → (book_calls book ≡ 32 → ⊥)
      → (find_and_run_idle book amounts flow ≡ placed_by book (enlarged book) a (idle_amounts (problem_of book) a b) flow)
      × (find_and_run_idle_flow book amounts flow ≡ flow_by book (enlarged book) a (idle_amounts (problem_of book) a b) flow)
  unfolding found_to_run_idle find_and_run_idle find_and_run_idle_flow
  idle_is enough room = rw (read, le-ltb (lots_total book amounts) (calls_total book amounts) enough, ne_eqb (book_calls book) 32 room) (refl, refl)

  -- the arrays with the idle call hold the amounts of the enlarged book
  pub idle_held : read_book book ≡ gives size → {r r' : Remaining 32} {u : ℕ} → Loaded amounts size.lots size.calls r
      → OneCallMore r size.calls u r' → u ≡ idle_amount (problem_of book) a b
      → HoldsState (problem_of book).lots (enlarged book).calls r' (start a (idle_amounts (problem_of book) a b))
  idle_held reads loaded more is =
      let calls = calls_are book size reads in
      rw (calls, is) at (more (problem_of book).lots a b (rw calls (loaded_holds book size reads amounts read loaded)))
