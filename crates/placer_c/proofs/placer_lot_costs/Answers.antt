-- `placer_lot_costs` meets its contract: a stretch that is not empty is of a lot of a readable book, and follows the word that the lot's row
-- starts with.
use Rattle.std.proofs.Common.{◌≡◌, ◌∙◌, refl, sym, ap, List, ℕ, length, arith}
use Rattle.std.proofs.lemmas.Bool.{ne_eqb}
use Rattle.specification.specs.Reply.{gives, Size}
use Rattle.specification.specs.Book.{read_book, lot_costs}
use Rattle.placer_c.specs.Stretches.{stretch_of}
use Rattle.placer_c.proofs.Stretches.{CostsStand, costs_stand}
use Rattle.placer_c.proofs.placer_lot_costs.Goals as goal

pub returns-then-len-eq0-clause-value : goal.returns-then-len-eq0-clause-value
unfolding stretch_of
returns-then-len-eq0-clause-value c =
    let none : length (lot_costs c.args.book.now c.args.lot) ≡ 0 = ap length (sym c.lot_costs-costs.ensures) ∙ c.if-len-eq0.true in
    rw (none, c.if-len-eq0.true) refl

-- some costs are there
some : (book : List ℕ) (lot : ℕ) {costs : List ℕ} → costs ≡ lot_costs book lot → (length costs ≡ 0 → ⊥) → length (lot_costs book lot) ≡ 0 → ⊥
some book lot e more = rw e at more

stands : {book : List ℕ} {lot : ℕ} {costs : List ℕ} → costs ≡ lot_costs book lot → (length costs ≡ 0 → ⊥) → CostsStand book lot
stands e more = costs_stand _ _ (read_book _) refl (some _ _ e more)

-- n and m, by each of the two
counted : {size : Size} {lots calls : ℕ} → (size.lots ≡ lots) × (size.calls ≡ calls) → size ≡ record { lots = lots; calls = calls }
counted (lots, calls) = λ i. record { lots = lots i; calls = calls i }

pub invariant_of-read : goal.invariant_of-read
invariant_of-read c =
    let s = stands c.lot_costs-costs.ensures c.if-len-eq0.false in
    record { readable = s.reads ∙ sym (ap gives (counted c.counts_at.ensures)) }

pub row_at-requires : goal.row_at-requires
row_at-requires c = omega (arith, c.counts_at.ensures, (stands c.lot_costs-costs.ensures c.if-len-eq0.false).lot_in)

pub overflow_add-result : goal.overflow_add-result
overflow_add-result c = omega (arith, c.row_at.ensures, (stands c.lot_costs-costs.ensures c.if-len-eq0.false).inside)

pub returns-clause-value : goal.returns-clause-value
unfolding stretch_of
returns-clause-value c =
    rw (c.row_at.ensures, c.lot_costs-costs.ensures, ne_eqb _ _ (some _ _ c.lot_costs-costs.ensures c.if-len-eq0.false)) refl

pub returns-clause-book_value : goal.returns-clause-book_value
returns-clause-book_value c = rw (c.row_at.ensures, c.lot_costs-costs.ensures) (stands c.lot_costs-costs.ensures c.if-len-eq0.false).stretch
