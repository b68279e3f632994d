-- Slacks that are a book's, however they are laid out, state the book's problem: a pair has slack exactly where its bit is set, since no cost
-- within the range is above the top, and its cost by the slack is the book's with the limit added (`stated_same`, `stated_lifts`). With an
-- idle call they state the enlarged problem (`stated_idle`).
use Rattle.std.proofs.Common.{◌≡◌, ℕ, suc, ◌+◌, ◌-◌, ◌<◌, ◌≤◌, Bool, true, false, not, ◌&&◌, eqb, ltb, List, pos, ◌+ℤ◌, sym, refl, ap, ◌∙◌, arith, lt-ltb, ne_eqb}
use lib.IntN.{+ℤ_assoc}
use Rattle.transport.specs.Problem.{Eligible}
use Rattle.transport.specs.Idle.{with_idle}
use Rattle.transport.specs.Signed.{Lifts}
use Rattle.transport.proofs.Laws.Tests.{T_true, and_says, counted_of, counted_le}
use Rattle.transport.proofs.Finder.Same.{Same, same_sym, eligible_of_same}
use Rattle.transport.proofs.Finder.Idle.{idle_same}
use Rattle.specification.specs.Costs.{cost_limit, cost_top, cost_base, lifted_cost}
use Rattle.specification.specs.Book.{bit, row_word, row_cost, book_version, book_lots, book_calls, row_at, problem_of, costs_of}
use Rattle.specification.specs.Idle.{enlarged}
use Rattle.specification.proofs.Costs.{base_within, raised_is, raised_within}
use Rattle.specification.proofs.Rows.{RowRead}
use Rattle.specification.proofs.Books.{book_lifts}
use Rattle.rows.proofs.Bits.{bit_below}
use Rattle.book.proofs.Readable.{Read}
use Rattle.slacks.specs.Slacks.{slack_in, by_slack}

pub row_known : {book : List ℕ} {n m : ℕ} → Read book n m → (i : ℕ) → i < n → RowRead (row_at book i) (book_version book) (book_calls book)
row_known r i hi = r.known.row i (omega (arith, r.lots_is))

-- the cost of a set bit is in its version's range, so with the limit added it is at most the top
pub raised_low : {row : List ℕ} {version calls : ℕ} → RowRead row version calls → (j : ℕ) → bit (row_word row) j ≡ true
    → lifted_cost cost_limit (row_cost row j) ≤ cost_top
raised_low {row} {version} {calls} r j e =
    raised_within version (row_cost row j) (r.costs_within j (bit_below (row_word row) j calls e r.word_below) (rw e tt))

pub slack_le : (book : List ℕ) (i j : ℕ) → slack_in book i j ≤ suc cost_top
slack_le book i j =
    omega (arith, counted_le (bit (row_word (row_at book i)) j) (suc cost_top - lifted_cost cost_limit (row_cost (row_at book i) j)))

module _ {book : List ℕ} {n m : ℕ} (r : Read book n m) (slack : ℕ → ℕ → ℕ)
    (slack_is : (i j : ℕ) → i < n → j < m → slack i j ≡ slack_in book i j) where
  -- a pair has slack exactly where its bit is set
  pub set_remains : (i j : ℕ) → i < n → j < m → bit (row_word (row_at book i)) j ≡ not (eqb (slack i j) 0)
  set_remains i j hi hj = rw (slack_is i j hi hj) (go (bit (row_word (row_at book i)) j) refl)
    where
      go : (b : Bool) → bit (row_word (row_at book i)) j ≡ b → bit (row_word (row_at book i)) j ≡ not (eqb (slack_in book i j) 0)
      go false e = rw e
      go true e =
          let low = raised_low (row_known r i hi) j e in
          rw e (rw (ne_eqb (suc cost_top - lifted_cost cost_limit (row_cost (row_at book i) j)) 0 (λ q. omega arith)))

  -- its cost by the slack is that of the book's problem, with what the base lacks of the limit
  cost_raised : (i j : ℕ) → Eligible (problem_of book) i j
      → (problem_of book).cost i j + (cost_limit - cost_base (book_version book)) ≡ suc cost_top - slack i j
  unfolding problem_of
  cost_raised i j (hi, hj, t) =
      let ni : i < n = omega (arith, r.lots_is) in
      let b = bit (row_word (row_at book i)) j in
      let (_, rest) = and_says (ltb i (book_lots book)) (ltb j (book_calls book) && b) t in
      let (_, here) = and_says (ltb j (book_calls book)) b rest in
      omega (
        arith,
        slack_is i j ni (omega (arith, r.calls_is)),
        counted_of b (suc cost_top - lifted_cost cost_limit (row_cost (row_at book i) j)) here,
        raised_low (row_known r i ni) j (T_true b here),
        raised_is (book_version book) (row_cost (row_at book i) j) ((row_known r i ni).costs_within j hj here),
      )

  pub stated_same : Same (problem_of book) (by_slack slack n m)
  unfolding problem_of
  stated_same = record {
    lots = sym r.lots_is;
    calls = sym r.calls_is;
    admits = admits;
    more = cost_limit - cost_base (book_version book);
    more' = 0;
    cost = λ i j e. omega (arith, cost_raised i j e);
  }
    where
      admits : (i j : ℕ) → i < book_lots book → j < book_calls book → (problem_of book).admits i j ≡ (by_slack slack n m).admits i j
      admits i j hi hj =
          let ni : i < n = omega (arith, r.lots_is) in
          let mj : j < m = omega (arith, r.calls_is) in
          rw (lt-ltb i (book_lots book) hi, lt-ltb j (book_calls book) hj, lt-ltb i n ni, lt-ltb j m mj) (set_remains i j ni mj)

  -- the idle call costs 0, and so in the one problem the base, in the other the limit
  pub stated_idle : Same (enlarged book) (with_idle cost_limit (by_slack slack n m))
  unfolding stated_same
  stated_idle = idle_same stated_same (cost_base (book_version book)) cost_limit (omega (arith, base_within (book_version book)))

  -- the costs with their signs are those by the slacks, less the limit
  pub stated_lifts : Lifts cost_limit (by_slack slack n m) (costs_of book)
  stated_lifts = record { lifted = lifted }
    where
      lifted : (i j : ℕ) → Eligible (by_slack slack n m) i j → costs_of book i j +ℤ pos cost_limit ≡ pos (suc cost_top - slack i j)
      lifted i j e =
          let base = cost_base (book_version book) in
          let lack = cost_limit - base in
          let own = eligible_of_same (same_sym stated_same) i j e in
          let whole : cost_limit ≡ base + lack = omega (arith, base_within (book_version book)) in
          ap (λ k. costs_of book i j +ℤ pos k) whole
          ∙ sym (+ℤ_assoc (costs_of book i j) (pos base) (pos lack))
          ∙ ap (λ z. z +ℤ pos lack) ((book_lifts r.known).lifted i j own)
          ∙ ap pos (cost_raised i j own)
