-- The search of a table of eight by eight: which pair is next, and what the pairs were given once all are taken.
use Rattle.std.specs.Prelude.{◌≡◌, Bool, true, not, ◌&&◌, List, ℕ, ◌*◌, ◌≤◌, ◌<◌, eqb, length, get_or, replicate, Some, None}
use Rattle.std.specs.Prelude as prelude
use Rattle.std.proofs.Math.Option.{Option, some, none}
use Rattle.transport.specs.Problem.{Problem}
use Rattle.transport.specs.Greedy.{Pair, State, start, greedy}
use Rattle.transport.specs.Finder.{size, find}
use Rattle.specification.specs.Book.{bit}
use Rattle.slacks.specs.Slacks.{by_slack}
use Rattle.specification.specs.declared.Lot.{Lot}
use Rattle.specification.specs.declared.Call.{Call}
use Rattle.words.specs.Lefts.{is_left, TakenFrom}
use Rattle.remaining.specs.declared.Remaining.{Remaining}
use Rattle.remaining.specs.States.{HoldsState}
use Rattle.remaining.specs.Replies.{Written}
use Rattle.panel_table.specs.declared.filling.Table.{Table}
use Rattle.panel_table.specs.Filling.{cell, slack_at}
use Rattle.panel_table.specs.Gaps.{LeastCalls, Renewed}
use Rattle.panel.specs.declared.search.Waiting.{Waiting}
use Rattle.panel.specs.declared.search.Taken.{Taken}

-- the problem that a table states
abbrev pub problem_in : List ℕ → ℕ → ℕ → Problem
problem_in slacks n m = by_slack (slack_at slacks) n m

-- the words of all n lots are of the calls at which their gaps are least
pub record AllLeast (slacks : List ℕ) (n : ℕ) (lefts least : List ℕ) : Type 0 where
  pub each : (i k : ℕ) → i < n → k < 8 → LeastCalls slacks (get_or lefts i 0) i k (cell least i k)
  pub long : length least ≡ 64

-- by the words (i, j) is free as far as the first lots go: it is left, and is in lot i's word for each of them that still has the call
pub record Frees (lefts least : List ℕ) (count i j : ℕ) : Type 0 where
  pub on : is_left lefts i j ≡ true
  pub passed : (k : ℕ) → k < count → is_left lefts k j ≡ true → bit (cell least i k) j ≡ true

-- the word of the calls whose pairs with lot i are
pub record FreeCalls (lefts least : List ℕ) (i count free : ℕ) : Type 0 where
  pub says : (j : ℕ) → bit free j ≡ true → Frees lefts least count i j
  pub all : (j : ℕ) → Frees lefts least count i j → bit free j ≡ true

-- (i, j) is the lowest such pair
pub record FirstFree (lefts least : List ℕ) (i j : ℕ) : Type 0 where
  pub frees : Frees lefts least 8 i j
  pub no_lower_lot : (a l : ℕ) → a < i → Frees lefts least 8 a l → ⊥
  pub no_lower_call : (l : ℕ) → l < j → Frees lefts least 8 i l → ⊥

-- the lowest such pair of n lots, or that there is none
abbrev pub NextIs : List ℕ → List ℕ → ℕ → prelude.Option (Lot × Call) → Type 0
NextIs lefts least n None = (i j : ℕ) → i < n → Frees lefts least 8 i j → ⊥
NextIs lefts least n (Some next) = FirstFree lefts least next.0.0 next.1.0

-- what is left is of n lots and m calls, and eligible
pub record Left (slacks : List ℕ) (n m : ℕ) (lefts : List ℕ) : Type 0 where
  pub inside : (i j : ℕ) → is_left lefts i j ≡ true → (i < n) × (j < m) × (slack_at slacks i j ≡ 0 → ⊥)
  pub long : length lefts ≡ 8

-- (i, j) is marked as taken: a mark is the word of its call
abbrev pub is_taken : List ℕ → ℕ → ℕ → Bool
is_taken taken i j = bit (cell taken i j) j

-- the marks of a lot have no other call
abbrev pub OwnCalls : List ℕ → ℕ → Type 0
OwnCalls taken i = (j l : ℕ) → j < 8 → bit (cell taken i j) l ≡ true → l ≡ j

-- the marks: what is left is what is eligible and not taken
pub record TakenMarks (eligible lefts taken : List ℕ) : Type 0 where
  pub each : (i j : ℕ) → i < 8 → j < 8 → is_left lefts i j ≡ (is_left eligible i j && not (is_taken taken i j))
  pub own : (i : ℕ) → i < 8 → OwnCalls taken i
  pub long : length taken ≡ 64

-- no pair is marked, all that are eligible are left, and the words of all n lots are worked out
pub record AllWait (table : Table) (n : ℕ) (w : Waiting) : Type 0 where
  pub lefts_are : w.lefts ≡ table.eligible
  pub marks : TakenMarks table.eligible w.lefts w.taken
  pub words : AllLeast table.slacks n w.lefts w.least

-- what is asked where the pair (i, j) is taken: it is within eight by eight, as are the calls eligible for lot i and those left to it
pub record CanTake (table : Table) (w : Waiting) (i j : ℕ) : Type 0 where
  pub lot_in : i < 8
  pub call_in : j < 8
  pub eligible_in : (l : ℕ) → is_left table.eligible i l ≡ true → l < 8
  pub lefts_in : (l : ℕ) → is_left w.lefts i l ≡ true → l < 8
  pub marks : TakenMarks table.eligible w.lefts w.taken

-- it is marked and no longer left, and the words of lot i are by the calls that are
pub record Took (table : Table) (w : Waiting) (i j : ℕ) (w' : Waiting) : Type 0 where
  pub out : TakenFrom i j w.lefts w'.lefts
  pub marks : TakenMarks table.eligible w'.lefts w'.taken
  pub renewed : Renewed table.slacks i (get_or w'.lefts i 0) 8 w.least w'.least

-- what is asked of the caller that has all pairs taken
pub record Searching (table : Table) (n m total : ℕ) (remaining : Remaining 8) : Type 0 where
  pub lots_few : n ≤ 8
  pub calls_few : m ≤ 8
  pub left : Left table.slacks n m table.eligible
  pub each : (i j : ℕ) → i < n → j < m → is_left table.eligible i j ≡ not (eqb (slack_at table.slacks i j) 0)
  pub total_is : total ≡ size (problem_in table.slacks n m)
  pub fits : (i : ℕ) → i < n → get_or remaining.lots i 0 < 4294967296

-- what remains and what was given are those of a state of GREEDY; the units stand as the first entries of a flow do
pub record Gives (P : Problem) (s : State) (taken : Taken) (units : List ℕ) : Type 0 where
  pub holds : HoldsState P.lots P.calls taken.remaining s
  pub written : Written P (replicate 64 0) s.given taken.sums.units taken.sums.lifted units

-- all pairs were taken where there is an order, and given by it what GREEDY gives
abbrev pub TakenBy : Option (List Pair) → Problem → Remaining 8 → prelude.Option Taken → List ℕ → Type 0
TakenBy none P before answer units = answer ≡ None
TakenBy (some S) P before answer units = (taken : Taken) × (answer ≡ Some taken)
    × (taken.sums.units ≤ 4294967296 * 64) × (taken.sums.lifted ≤ 8589934592000000 * 64) × (taken.sums.idle ≡ 0)
    × ((a b : ℕ → ℕ) → HoldsState P.lots P.calls before (start a b) → Gives P (greedy S a b) taken units)

abbrev pub TakenAll : List ℕ → ℕ → ℕ → Remaining 8 → prelude.Option Taken → List ℕ → Type 0
TakenAll slacks n m before answer units = TakenBy (find (problem_in slacks n m)) (problem_in slacks n m) before answer units
