-- Every entry point is refused by lines of the table, and by its own numbers alone: those of its causes, which are read off them a line for each.
use mathlib.Core.Path.{◌≡◌, sym}
use mathlib.Core.Logic.{⊎_elim}
use mathlib.Core.Bool.{Bool, true, ◌&&◌}
use mathlib.Core.List.{List, [], ◌∷◌}
use Prim.Native.Nat.{ℕ}
use lib.Dec.{T, eqb, eqb→eq}
use Rattle.transport.specs.Greedy.{Pair}
use Rattle.transport.proofs.Laws.Tests.{and_says, or_says}
use Rattle.specification.specs.declared.Lot.{Lot}
use Rattle.specification.specs.declared.Call.{Call}
use Rattle.specification.specs.declared.Refusal.{Refusal}
use Rattle.specification.specs.declared.Refusal.TheVariants as refusal
use Rattle.specification.specs.Reply.{refuses, stated}
use Rattle.specification.specs.Bytes.{book_mark, order_mark, amounts_mark}
use Rattle.specification.specs.OrderFile.{order_pairs}
use Rattle.specification.specs.Entry.{by_order, by_found, idle, panel, Entry, reads_book, reads_amounts, costs_pair, checks, finds, runs, reply_of}
use Rattle.specification.specs.Demands.{InTable}
use Rattle.specification.specs.Refused.{Causes, cause, ◌then◌, in_turn_of, opening_causes, head_causes, book_causes, amounts_causes, pair_at, cross_causes}
use Rattle.specification.specs.Refused.{order_causes, causes_of, book_numbers, order_numbers, amounts_numbers, numbers_of, among, RefusedExactly}
use Rattle.specification.proofs.Causes.{accepted_exactly}
use Rattle.specification.proofs.RefusedRuns.{refused_by_first}

-- causes that are lines of the table, with numbers among some
pub record Own (ns : List ℕ) (C : Causes) : Type 0 where
  pub by : (k : ℕ) (vs : List ℕ) → C k vs → InTable k vs × T (among k ns)

own_line : {ns : List ℕ} {H : Type 0} (r : Refusal) → T (among (stated r).number ns) → Own ns (cause (stated r).number (stated r).values H)
own_line r in_it = record { by = λ k vs (number, values, _). ((r, sym number, sym values), rw number in_it) }

own_then : {ns : List ℕ} {C D : Causes} → Own ns C → Own ns D → Own ns (C then D)
own_then first next = record { by = λ k vs. ⊎_elim (first.by k vs) (λ (_, later). next.by k vs later) }

own_turns : {ns : List ℕ} {n : ℕ} {C : ℕ → Causes} → ((i : ℕ) → Own ns (C i)) → Own ns (in_turn_of n C)
own_turns each = record { by = λ k vs (i, _, _, here). (each i).by k vs here }

-- numbers that are all among others
unfoldable pub all_among : List ℕ → List ℕ → Bool
all_among [] ms = true
all_among (n ∷ ns) ms = among n ms && all_among ns ms

pub own_more : {C : Causes} {ns ms : List ℕ} → T (all_among ns ms) → Own ns C → Own ms C
unfolding among all_among
own_more {C} {ns} {ms} all own = record { by = λ k vs c. let (line, in_it) = own.by k vs c in (line, pass k ns all in_it) }
  where
    pass : (k : ℕ) (ns : List ℕ) → T (all_among ns ms) → T (among k ns) → T (among k ms)
    pass k [] all in_it = absurd in_it
    pass k (n ∷ ns) all in_it =
        let (here, rest) = and_says (among n ms) (all_among ns ms) all in
        ⊎_elim (λ e. rw (eqb→eq k n e) here) (pass k ns rest) (or_says (eqb k n) (among k ns) in_it)

-- the causes of each file
own_opening : (ns mark : List ℕ) (newest : ℕ) (s : List ℕ) → T (all_among (1 ∷ 2 ∷ 3 ∷ []) ns) → Own ns (opening_causes mark newest s)
unfolding among
own_opening ns mark newest s all = own_more {ns = 1 ∷ 2 ∷ 3 ∷ []} all
    (own_then (own_line refusal.UnderSeven tt) (own_then (own_line refusal.MarkDiffers tt) (own_line refusal.VersionNotOne tt)))

own_head : (book : List ℕ) → Own book_numbers (head_causes book)
unfolding among all_among
own_head book = own_then (own_opening book_numbers book_mark 2 book tt) (own_line refusal.CountOutside tt)

own_book : (book : List ℕ) → Own book_numbers (book_causes book)
unfolding among
own_book book = own_then (own_head book) (own_then
    (own_turns (λ i. own_then (own_line refusal.EndsEarly tt) (own_then (own_line (refusal.BitOutside (record { 0 = i })) tt)
    (own_then (own_line refusal.EndsEarly tt)
    (own_turns (λ j. own_line (refusal.CostTooHigh (record { 0 = i }) (record { 0 = j })) tt))))))
    (own_line refusal.BytesAfter tt))

own_amounts : (book s : List ℕ) → Own amounts_numbers (amounts_causes book s)
unfolding among all_among
own_amounts book s = own_then (own_more tt (own_book book))
    (own_then (own_opening amounts_numbers amounts_mark 2 s tt) (own_then (own_line refusal.CountsDiffer tt) (own_then (own_line refusal.EndsEarly tt)
    (own_then (own_line refusal.BytesAfter tt) (own_then (own_line refusal.AmountTooHigh tt) (own_line refusal.ReserveExceedsLot tt))))))

own_cross : (book : List ℕ) (S : List Pair) (place k l : ℕ) → Own order_numbers (cross_causes book S place k l)
unfolding among
own_cross book S place k l =
    let (i, j) : Lot × Call = (record { 0 = (pair_at S place).lot }, record { 0 = (pair_at S place).call }) in
    own_then (own_line (refusal.CrossNotEligible i j (record { 0 = k }) (record { 0 = l })) tt)
    (own_line (refusal.CrossSumTooHigh i j (record { 0 = k }) (record { 0 = l })) tt)

own_order : (book s : List ℕ) → Own order_numbers (order_causes book s)
unfolding among all_among
own_order book s = own_then (own_more tt (own_book book))
    (own_then (own_opening order_numbers order_mark 1 s tt) (own_then (own_line refusal.EndsEarly tt) (own_then (own_line refusal.BytesAfter tt)
    (own_then (own_turns (λ place. own_then (own_line (refusal.PairNotEligible place) tt) (own_line (refusal.PairMetBefore place) tt)))
    (own_then (own_line refusal.PairMissing tt)
    (own_turns (λ place. own_turns (λ k. own_turns (λ l. own_cross book (order_pairs s) place k l)))))))))

pub own_numbers : (e : Entry) → Own (numbers_of e) (causes_of e)
unfolding among all_among
own_numbers (reads_book book) = own_book book
own_numbers (reads_amounts book amounts) = own_amounts book amounts
own_numbers (costs_pair book i j) = own_book book
own_numbers (checks book order) = own_order book order
own_numbers (finds book buffer) =
    own_then (own_more tt (own_book book)) (own_then (own_line refusal.BufferTooShort tt) (own_line refusal.NoOrder tt))
own_numbers (runs (by_order order) book amounts flow) = own_then (own_more tt (own_order book order))
    (own_then (own_more tt (own_amounts book amounts)) (own_line refusal.BufferTooShort tt))
own_numbers (runs by_found book amounts flow) =
    own_then (own_more tt (own_amounts book amounts)) (own_then (own_line refusal.BufferTooShort tt) (own_line refusal.NoOrder tt))
own_numbers (runs idle book amounts flow) = own_then (own_more tt (own_amounts book amounts))
    (own_then (own_line refusal.CallsExceedLots tt) (own_then (own_line refusal.NoIdleCall tt)
    (own_then (own_line refusal.BufferTooShort tt) (own_line refusal.NoOrder tt))))
own_numbers (runs panel book amounts flow) =
    own_then (own_then (own_more tt (own_head book)) (own_line refusal.AboveEight tt))
    (own_then (own_more tt (own_amounts book amounts)) (own_then (own_line refusal.BufferTooShort tt) (own_line refusal.NoOrder tt)))

pub refused_exactly : RefusedExactly
refused_exactly = record {
  by_first = refused_by_first;
  accepted = λ e. accepted_exactly (reply_of e) (refused_by_first e);
  by_its_own = λ e k vs refused. ((own_numbers e).by k vs ((refused_by_first e k vs).0 refused)).1;
}

-- each is a line of the table
pub in_table : (e : Entry) (k : ℕ) (vs : List ℕ) → reply_of e ≡ refuses k vs → InTable k vs
in_table e k vs refused = ((own_numbers e).by k vs ((refused_by_first e k vs).0 refused)).0
