-- Finding and running past the refusals of the files. A book's table states its problem, so what is found in the table is what is found for the
-- book, and the state that the search ends in is GREEDY's by the order found: its reply and its units are those of the definition.
use mathlib.Core.Path.{◌≡◌, refl, sym, ◌∙◌, ap, subst}
use mathlib.Core.Logic.{by_cases}
use mathlib.Core.Bool.{true, not, true≢false, and-true}
use mathlib.Core.List.{List, [], ◌++◌}
use mathlib.Core.Option.{Option, some, none}
use Rattle.std.specs.Prelude.{Some, None}
use Rattle.std.specs.Prelude as prelude
use Prim.Native.Nat.{ℕ, ◌*◌, ◌≤◌, ◌<◌}
use native.Mathlib.Nat.{mul-le-mul}
use native.Mathlib.Decide.{dec_lt}
use native.Mathlib.Omega.{arith}
use borrow.Author.Tests.{eq-eqb}
use lib.Dec.{eqb}
use lib.IntN.{ℤ, pos, ◌-ℤ◌}
use lib.ListN.{length, get_or, take, drop, replicate}
use Rattle.transport.specs.Problem.{Problem, Eligible}
use Rattle.transport.specs.Greedy.{Pair, State, start, greedy}
use Rattle.transport.specs.Order.{times}
use Rattle.transport.specs.Finder.{size, find}
use Rattle.transport.proofs.Greedy.Turns.{give_all_given}
use Rattle.transport.proofs.Greedy.Exchange.{EligibleOnly}
use Rattle.transport.proofs.Orders.Lists.{lists_of_order}
use Rattle.transport.proofs.Finder.Find.{find_is_order}
use Rattle.transport.proofs.Finder.Same.{Same, size_of_same, find_of_same}
use Rattle.specification.specs.declared.Placed.{Placed}
use Rattle.specification.specs.Reply.{gives, refuses, outcome_of}
use Rattle.specification.specs.Costs.{cost_limit}
use Rattle.specification.specs.Book.{row_word, book_calls, row_at, read_book, problem_of, costs_of}
use Rattle.specification.specs.Amounts.{lot_amount, call_amount, read_amounts}
use Rattle.specification.specs.Run.{all_zero, outcome, flow_of}
use Rattle.specification.specs.Find.{order_or13, found_to_run, find_and_run, find_and_run_flow}
use Rattle.specification.specs.Reserves.{WithinLots}
use Rattle.specification.proofs.AmountsFiles.{book_of_amounts}
use Rattle.rows.proofs.Bits.{bit_below}
use Rattle.book.proofs.Readable.{Read, counts_are}
use Rattle.words.proofs.Sets.{bit_none}
use Rattle.slacks.specs.Slacks.{slack_in}
use Rattle.slacks.proofs.Filled.{set_remains, stated_same, stated_lifts}
use Rattle.remaining.specs.States.{HoldsState, Loaded}
use Rattle.remaining.specs.Replies.{reply_of}
use Rattle.remaining.proofs.Grid.{flow_copied}
use Rattle.remaining.proofs.Ending.{all_zero_same, shows_end}
use Rattle.remaining.proofs.Loading.{lots_are, calls_are, can_load, long_enough, lots_fit, loaded_holds}
use Rattle.words.specs.Lefts.{is_left}
use Rattle.remaining.specs.declared.Remaining.{Remaining}
use Rattle.panel_table.specs.declared.filling.Table.{Table}
use Rattle.panel.specs.declared.search.Taken.{Taken}
use Rattle.panel_table.specs.Filling.{slack_at, Within, Filled}
use Rattle.panel.specs.Search.{problem_in, Left, Searching, Gives, TakenBy, TakenAll}

-- problems of one size have the same outcome and the same flow
module _ (P Q : Problem) (lots : P.lots ≡ Q.lots) (calls : P.calls ≡ Q.calls) where
  outcome_same : (c : ℕ → ℕ → ℤ) (s : State) → outcome P c s ≡ outcome Q c s
  outcome_same c s = rw (lots, calls)

  flow_same_size : (x : ℕ → ℕ → ℕ) (flow : List ℕ) → flow_of P x flow ≡ flow_of Q x flow
  unfolding flow_of
  flow_same_size x flow = rw (lots, calls)

-- units given by eligible pairs are of eligible pairs alone
eligible_only : (P : Problem) (S : List Pair) → ((i j : ℕ) → 0 < times i j S → Eligible P i j) → (a b : ℕ → ℕ)
    → EligibleOnly P (greedy S a b).given
eligible_only P S eligible a b i j n = give_all_given S (start a b) i j
    (by_cases (dec_lt 0 (times i j S)) (λ h. absurd (n (eligible i j h))) (λ h. omega arith))

-- the amounts are read with the book, which is within eight by eight, and the flow is long enough
pub record Supplied (book amounts flow : List ℕ) (n m : ℕ) : Type 0 where
  pub read : read_amounts book amounts ≡ gives (record { lots = n; calls = m })
  pub few_lots : n ≤ 8
  pub few_calls : m ≤ 8
  pub long : n * m ≤ length flow

-- an order of P is found, and all its pairs are taken
pub record Ended (P : Problem) (a b : ℕ → ℕ) (t : Taken) (units : List ℕ) : Type 0 where
  pub order : List Pair
  pub found : find P ≡ some order
  pub units_bound : t.sums.units ≤ 4294967296 * 64
  pub lifted_bound : t.sums.lifted ≤ 8589934592000000 * 64
  pub no_idle : t.sums.idle ≡ 0
  pub state : Gives P (greedy order a b) t units

module _ {book amounts flow : List ℕ} {n m : ℕ} (given : Supplied book amounts flow n m) where
  abbrev P : Problem
  P = problem_of book

  abbrev a : ℕ → ℕ
  a = lot_amount amounts

  abbrev b : ℕ → ℕ
  b = call_amount book amounts

  reads : read_book book ≡ gives (record { lots = n; calls = m })
  reads = book_of_amounts book amounts _ given.read

  pub known : Read book n m
  known = counts_are book (sym reads)

  -- what `load` asks
  pub loadable : (8 ≤ 32) × (n ≤ 8) × (m ≤ 8) × WithinLots (record { lots = n; calls = m }) amounts
  loadable = (omega arith, given.few_lots, given.few_calls, (can_load book _ reads amounts given.read).2)

  pub within : Within book
  within = record {
    is_readable = known.is_readable;
    lots_few = omega (arith, known.lots_is, given.few_lots);
    calls_few = omega (arith, known.calls_is, given.few_calls);
  }

  pub cells_few : n * m ≤ 64
  cells_few = mul-le-mul {n₂ = 8} given.few_lots given.few_calls

  -- what the definition says once the search has answered
  none_found : find P ≡ none → (refuses 13 [] ≡ find_and_run book amounts flow) × (flow ≡ find_and_run_flow book amounts flow)
  unfolding found_to_run find_and_run find_and_run_flow
  none_found e = rw (given.read, long_enough book _ reads flow given.long, e, order_or13) (refl, refl)

  order_found : (S : List Pair) → find P ≡ some S
      → (gives (outcome P (costs_of book) (greedy S a b)) ≡ find_and_run book amounts flow)
      × (flow_of P (greedy S a b).given flow ≡ find_and_run_flow book amounts flow)
  unfolding found_to_run find_and_run find_and_run_flow
  order_found S e = rw (given.read, long_enough book _ reads flow given.long, e, order_or13) (refl, refl)

  -- the table is filled
  module _ (table : Table) (at_lots : table.lots ≡ n) (at_calls : table.calls ≡ m) (filled : Filled book n table.slacks table.eligible) where
    abbrev slacks : List ℕ
    slacks = table.slacks

    abbrev eligible : List ℕ
    eligible = table.eligible

    abbrev Q : Problem
    Q = problem_in slacks n m

    slack_is : (i j : ℕ) → i < n → j < m → slack_at slacks i j ≡ slack_in book i j
    slack_is i j hi hj = filled.entered.passed i j hi (omega (arith, given.few_calls))

    states : Same P Q
    states = stated_same known (slack_at slacks) slack_is

    found_alike : find P ≡ find Q
    found_alike = find_of_same states

    each_left : (i j : ℕ) → i < n → j < m → is_left eligible i j ≡ not (eqb (slack_at slacks i j) 0)
    each_left i j hi hj = rw (filled.word i hi) (set_remains known (slack_at slacks) slack_is i j hi hj)

    all_left : Left slacks n m eligible
    all_left = record { inside = inside; long = filled.long }
      where
        inside : (i j : ℕ) → is_left eligible i j ≡ true → (i < n) × (j < m) × (slack_at slacks i j ≡ 0 → ⊥)
        inside i j e = by_cases (dec_lt i n)
            (λ hi. let row = known.known.row i (omega (arith, known.lots_is)) in
            let hj : j < m = omega (
              arith,
              known.calls_is,
              bit_below (row_word (row_at book i)) j (book_calls book) (rw (filled.word i hi) at e) row.word_below,
            ) in
            (hi, hj, λ q. true≢false (sym e ∙ each_left i j hi hj ∙ rw (eq-eqb (slack_at slacks i j) 0 q))))
            (λ g. absurd (true≢false (sym e ∙ rw (filled.none i (omega arith)) (bit_none j))))

    -- what the search asks for
    module _ {r : Remaining 8} (loaded : Loaded amounts n m r) where
      pub searching : {total : ℕ} → total ≡ size P → Searching table table.lots table.calls total r
      searching e = rw (at_lots, at_calls) (record {
        lots_few = given.few_lots;
        calls_few = given.few_calls;
        left = all_left;
        each = each_left;
        total_is = e ∙ size_of_same states;
        fits = lots_fit book _ reads amounts given.read loaded;
      })

      held : HoldsState n m r (start a b)
      held = rw (lots_are book _ reads, calls_are book _ reads) (loaded_holds book _ reads amounts given.read loaded)

      -- what it leaves
      module _ (answer : prelude.Option Taken) (units : List ℕ) (taken : TakenAll slacks table.lots table.calls r answer units) where
        pub refused_13 : answer ≡ None → (refuses 13 [] ≡ find_and_run book amounts flow) × (flow ≡ find_and_run_flow book amounts flow)
        refused_13 e = go (find Q) refl (rw (at_lots, at_calls) at taken)
          where
            go : (o : Option (List Pair)) → find Q ≡ o → TakenBy o Q r answer units
                → (refuses 13 [] ≡ find_and_run book amounts flow) × (flow ≡ find_and_run_flow book amounts flow)
            go none q by = none_found (found_alike ∙ q)
            go (some S) q (t, is, _, _, _, _) = absurd (let f : None ≡ Some t = sym e ∙ is in cc)

        pub ended : (t : Taken) → answer ≡ Some t → Ended Q a b t units
        ended t e = go (find Q) refl (rw (at_lots, at_calls) at taken)
          where
            go : (o : Option (List Pair)) → find Q ≡ o → TakenBy o Q r answer units → Ended Q a b t units
            go none q by = absurd (let f : None ≡ Some t = sym by ∙ e in cc)
            go (some S) q (u, is, units_low, lifted_low, idle, all) =
                let same : u ≡ t = (let f : Some u ≡ Some t = sym is ∙ e in cc) in
                subst (λ (x : Taken). Ended Q a b x units) same
                (record { order = S; found = q; units_bound = units_low; lifted_bound = lifted_low; no_idle = idle; state = all a b held })

    -- the units are copied into the flow, and the reply is by what remains
    module _ {t : Taken} {units : List ℕ} (end : Ended Q a b t units) where
      pub answered : (reply : Placed) (flow' : List ℕ)
          → outcome_of reply
          ≡ reply_of t.remaining.lots t.remaining.calls t.sums.idle n m t.sums.units (pos t.sums.lifted -ℤ pos (cost_limit * t.sums.units))
          → flow' ≡ take (n * m) units ++ drop (n * m) flow
          → (gives (outcome_of reply) ≡ find_and_run book amounts flow) × (flow' ≡ find_and_run_flow book amounts flow)
      answered reply flow' e f =
          let S = end.order in
          let s = greedy S a b in
          let holds = end.state.holds in
          let listed = lists_of_order (find_is_order Q S end.found) in
          let shown = shows_end (stated_lifts known (slack_at slacks) slack_is) refl refl s t.remaining.lots t.remaining.calls 0
          (eligible_only Q S listed.eligible a b) end.state.written holds.lacks_at
          (and-true (all_zero n (λ i. get_or t.remaining.lots i 0)) ∙ all_zero_same n _ _ holds.left_at) reply (rw end.no_idle at e) in
          let said = order_found S (found_alike ∙ end.found) in (
            ap gives shown.reply_is ∙ ap gives (sym (outcome_same P Q states.lots states.calls (costs_of book) s)) ∙ said.0,
            f
                ∙ ap (λ (l : List ℕ). take (n * m) l ++ drop (n * m) flow) shown.flow_is
                ∙ flow_copied Q s.given (replicate 64 0) flow
                ∙ sym (flow_same_size P Q states.lots states.calls s.given flow)
                ∙ said.1,
          )
