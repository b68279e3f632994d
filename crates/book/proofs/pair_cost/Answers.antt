use Rattle.std.proofs.Common.{arith, ◌≡◌, ◌<◌, ℕ, List, true, false, sym, ap, ap₂, ◌∙◌}
use borrow.Author.Rules.{sfits_of}
use borrow.Author.Tests.{lt-ltb}
use mir.Syntax.{w64}
use mir.Val.{of_z, to_z}
use mir.Facts.{to_z-of_z}
use Rattle.specification.specs.Reply.{Size, gives}
use Rattle.specification.specs.Costs.{held_cost}
use Rattle.specification.specs.Book.{bit, row_word, row_at, read_book, problem_of, costs_of, costs}
use Rattle.specification.proofs.Books.{admitted_inside, cost_allowed}
use Rattle.book.proofs.Readable.{read_is, row_fits}
use Rattle.book.proofs.Rows.{part_is_row}
use Rattle.book.proofs.pair_cost.Goals as goal

-- the pair is eligible where its bit is set
admits_is : (book : List ℕ) (counts : Size) → read_book book ≡ gives counts → (i j : ℕ) → i < counts.lots → j < counts.calls
    → (problem_of book).admits i j ≡ bit (row_word (row_at book i)) j
unfolding problem_of
admits_is book counts e i j h k =
    let read = read_is book counts e in
    rw (← read.lots_is, ← read.calls_is, lt-ltb i counts.lots h, lt-ltb j counts.calls k)

pub slice_bounds-row-count : goal.slice_bounds-row-count
slice_bounds-row-count c =
    omega (arith, c.row_at-at.ensures, row_fits _ _ (sym c.in-Ok.ensures) c.args.lot.0 c.if-read-lot.false)

pub slice_bounds-row-start : goal.slice_bounds-row-start
slice_bounds-row-start c =
    omega (arith, c.row_at-at.ensures, row_fits _ _ (sym c.in-Ok.ensures) c.args.lot.0 c.if-read-lot.false)

pub returns-then-not-is_set : goal.returns-then-not-is_set
returns-then-not-is_set c =
    let book = c.args.book.now in
    let read = sym c.in-Ok.ensures in
    let row = part_is_row book c.args.lot.0 c.row_at-at.ensures in
    let unset : (problem_of book).admits c.args.lot.0 c.args.call.0 ≡ false =
    admits_is book _ read _ _ c.if-read-lot.false c.if-read-call.false ∙ sym (rw (c.u32_at.ensures, row) at c.is_set.ensures) ∙ c.if-not-is_set.true in
    simp (read, lt-ltb _ _ c.if-read-lot.false, lt-ltb _ _ c.if-read-call.false, unset)

pub held_cost-cost-requires : goal.held_cost-cost-requires
held_cost-cost-requires c =
    let book = c.args.book.now in
    let read = sym c.in-Ok.ensures in
    let row = part_is_row book c.args.lot.0 c.row_at-at.ensures in
    let set : (problem_of book).admits c.args.lot.0 c.args.call.0 ≡ true =
    admits_is book _ read _ _ c.if-read-lot.false c.if-read-call.false ∙ sym (rw (c.u32_at.ensures, row) at c.is_set.ensures) ∙ c.if-not-is_set.false in
    rw (c.version_of.ensures, rw row at c.cost_in.ensures)
    (cost_allowed (read_is book _ read).known _ _ (admitted_inside book c.args.lot.0 c.args.call.0 (rw set tt)))

pub returns : goal.returns
unfolding costs_of
returns c =
    let book = c.args.book.now in
    let read = sym c.in-Ok.ensures in
    let row = part_is_row book c.args.lot.0 c.row_at-at.ensures in
    let set : (problem_of book).admits c.args.lot.0 c.args.call.0 ≡ true =
    admits_is book _ read _ _ c.if-read-lot.false c.if-read-call.false ∙ sym (rw (c.u32_at.ensures, row) at c.is_set.ensures) ∙ c.if-not-is_set.false in
    let cost : to_z w64 (of_z w64 c.held_cost-cost.result) ≡ costs_of book c.args.lot.0 c.args.call.0 =
    to_z-of_z {w = w64} (sfits_of c.held_cost-cost.type_inv) ∙ c.held_cost-cost.ensures ∙ ap₂ held_cost c.version_of.ensures (rw row at c.cost_in.ensures) in
    simp (read, lt-ltb _ _ c.if-read-lot.false, lt-ltb _ _ c.if-read-call.false, set) (ap (λ z. gives (costs z)) cost)
