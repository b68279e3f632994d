-- What the printing program prints: the text of find-and-run's reply to the two whole files, whatever flow buffer of 1,024 entries or more is
-- lent; and a number in decimal, read back.
use mathlib.Core.Path.{◌≡◌, refl, ◌∙◌}
use mathlib.Core.Logic.{by_cases}
use mathlib.Core.Bool.{false}
use mathlib.Core.List.{List, [], ◌∷◌, ◌++◌}
use mathlib.Core.Option.{Option, some, none}
use Prim.Native.Nat.{ℕ, zero, suc, ◌+◌, ◌*◌, ◌-◌, ◌/◌, ◌%◌, ◌^◌, ◌≤◌, ◌<◌}
use native.Mathlib.Decide.{dec_lt}
use native.Mathlib.Nat.{pow-suc}
use native.Mathlib.Omega.{arith}
use borrow.Author.Tests.{lt-ltb, le-ltb}
use lib.ListN.{length, get_or, take, replicate, drop, length-replicate, get_or-append}
use lib.Seq.{take_all}
use Rattle.transport.specs.Problem.{Problem}
use Rattle.transport.specs.Greedy.{Pair}
use Rattle.transport.specs.Finder.{find}
use Rattle.specification.specs.Reply.{gives, Never, Size, Outcome}
use Rattle.specification.specs.Book.{problem_of}
use Rattle.specification.specs.Amounts.{read_amounts}
use Rattle.specification.specs.Run.{tabulate, flow_of, flow_too_short}
use Rattle.specification.specs.Find.{order_or13, found_to_run, find_and_run, find_and_run_flow}
use Rattle.specification.specs.Entry.{reads_amounts}
use Rattle.specification.specs.Refused.{among}
use Rattle.specification.specs.Text.{digits, read_digits, pair_lines, text_of, book_most, amounts_most, printed}
use Rattle.specification.proofs.Each.{Each, none_left, one_more, each_append}
use Rattle.specification.proofs.Replies.{by_reply, never}
use Rattle.specification.proofs.Books.{book_says, book_length}
use Rattle.specification.proofs.AmountsFiles.{amounts_say, amounts_length_lem, amounts_read}
use Rattle.specification.proofs.OwnLines.{refused_exactly}
use Rattle.specification.proofs.Flows.{length_tabulate}
use Rattle.specification.proofs.Cuts.{cut_book, cut_amounts}
use Rattle.specification.proofs.FindRuns.{FindRunRefused, of_amounts, too_short_flow, find_and_run_says}
use Rattle.specification.proofs.Bounds.{cells_within}

-- the two files, cut as they are read
cut_both : (book amounts : List ℕ) → read_amounts (take book_most book) (take amounts_most amounts) ≡ read_amounts book amounts
unfolding read_amounts
cut_both book amounts = by_reply (book_says book)
    (λ n read e. rw (cut_book book, e) (cut_amounts n amounts (rw read.sizes read.lots_within) (rw read.sizes read.calls_within)))
    (λ k vs q e. rw (cut_book book, e) refl)

-- the lines are those of the entries that a run writes
same_lines : (m n : ℕ) (front f g : List ℕ) → n ≤ length front → pair_lines m (front ++ f) n ≡ pair_lines m (front ++ g) n
unfolding pair_lines
same_lines m zero front f g h = refl
same_lines m (suc n) front f g h =
    rw (get_or-append front f 0 n (omega arith), get_or-append front g 0 n (omega arith), same_lines m n front f g (omega arith)) refl

same_text : (P : Problem) (x : ℕ → ℕ → ℕ) (o : Outcome) (f g : List ℕ)
    → text_of (gives o) P (flow_of P x f) ≡ text_of (gives o) P (flow_of P x g)
unfolding text_of flow_of
same_text P x o f g =
    let cells : ℕ = P.lots * P.calls in
    let cell : ℕ → ℕ = λ k. x (k / P.calls) (k % P.calls) in
    let long : cells ≤ length (tabulate cells cell) = omega (arith, length_tabulate cells cell) in
    rw (same_lines P.calls cells (tabulate cells cell) (drop cells f) (drop cells g) long) refl

-- the text of a reply, and it is the same with any two buffers that are long enough
abbrev text : List ℕ → List ℕ → List ℕ → List ℕ
text book amounts flow = text_of (find_and_run book amounts flow) (problem_of book) (find_and_run_flow book amounts flow)

module _ (book amounts : List ℕ) (n : Size) (reads : read_amounts book amounts ≡ gives n) (f g : List ℕ)
    (f_long : 1024 ≤ length f) (g_long : 1024 ≤ length g) where
  enough : (flow : List ℕ) → 1024 ≤ length flow → flow_too_short (problem_of book) flow ≡ false
  enough flow long = le-ltb (length flow) _ (omega (arith, cells_within (amounts_read book amounts n reads).0))

  any_buffer : text book amounts f ≡ text book amounts g
  unfolding found_to_run find_and_run find_and_run_flow
  any_buffer = by_order (find (problem_of book)) refl
    where
      by_order : (o : Option (List Pair)) → find (problem_of book) ≡ o → text book amounts f ≡ text book amounts g
      by_order none e = unfold text_of in rw (reads, enough f f_long, enough g g_long, e, order_or13) refl
      by_order (some S) e = rw (reads, enough f f_long, enough g g_long, e, order_or13) (same_text (problem_of book) _ _ f g)

-- so it is on the whole files
pub prints : (book amounts flow : List ℕ) → 1024 ≤ length flow → printed book amounts ≡ text book amounts flow
unfolding printed
prints book amounts flow long = by_reply (amounts_say book amounts)
    (λ n (read, amounts_are) reads.
    rw (take_all book_most book (omega (arith, book_length read)), take_all amounts_most amounts (omega (arith, amounts_length_lem read amounts_are)))
    (any_buffer book amounts n reads (replicate 1024 0) flow (omega (arith, length-replicate {A = ℕ} 1024 0)) long))
    (λ k vs q e. unfold found_to_run find_and_run text_of in rw (cut_both book amounts, e) refl)

-- 17 is never met with 1,024 flow entries: they are enough for every book
pub printing_not_17 : (book amounts flow : List ℕ) → 1024 ≤ length flow → Never 17 (find_and_run book amounts flow)
unfolding among
printing_not_17 book amounts flow long = never 17 (find_and_run_says book amounts flow) (λ vs. by_cause)
  where
    by_cause : {vs : List ℕ} → FindRunRefused book amounts flow 17 vs → ⊥
    by_cause {vs} (of_amounts q refused) = refused_exactly.by_its_own (reads_amounts book amounts) 17 vs (rw refused refl)
    by_cause (too_short_flow {n} reads h) = omega (arith, cells_within (amounts_read book amounts n reads).0)

-- digits read back: those before the last, and the last
read_last : (a d : ℕ) (front : List ℕ) → read_digits a (front ++ (d ∷ [])) ≡ 10 * read_digits a front + (d - 48)
unfolding read_digits
read_last a d [] = refl
read_last a d (x ∷ front) = read_last (10 * a + (x - 48)) d front

pub digits_back : (most n : ℕ) → n < 10 ^ most → read_digits 0 (digits most n) ≡ n
unfolding read_digits digits
digits_back zero n h = omega arith
digits_back (suc most) n h = by_cases (dec_lt n 10)
    (λ small. rw (lt-ltb n 10 small, digits) (omega arith))
    (λ large.
    let rest = digits_back most (n / 10) (omega (arith, pow-suc 10 most)) in
    rw (le-ltb n 10 (omega arith), digits) (read_last 0 (48 + n % 10) (digits most (n / 10)) ∙ omega arith))

-- each is a digit, and the first of a number above 0 is no 0
pub digits_each : (most n : ℕ) → Each (λ d. (48 ≤ d) × (d ≤ 57)) (digits most n)
unfolding digits
digits_each zero n = none_left
digits_each (suc most) n = by_cases (dec_lt n 10)
    (λ small. rw (lt-ltb n 10 small, digits) (one_more (48 + n) (omega arith, omega arith) none_left))
    (λ large. rw (le-ltb n 10 (omega arith), digits) (each_append (digits_each most (n / 10)) (one_more (48 + n % 10) (omega arith, omega arith) none_left)))

first_stays : (front rest : List ℕ) → 48 < get_or front 0 0 → 48 < get_or (front ++ rest) 0 0
first_stays [] rest h = absurd (omega arith)
first_stays (d ∷ front) rest h = h

pub digits_first : (most n : ℕ) → 0 < n → n < 10 ^ most → 48 < get_or (digits most n) 0 0
unfolding digits
digits_first zero n above h = absurd (omega arith)
digits_first (suc most) n above h = by_cases (dec_lt n 10)
    (λ small. rw (lt-ltb n 10 small, digits) (omega arith))
    (λ large. rw (le-ltb n 10 (omega arith), digits)
    (first_stays (digits most (n / 10)) _ (digits_first most (n / 10) (omega arith) (omega (arith, pow-suc 10 most)))))
