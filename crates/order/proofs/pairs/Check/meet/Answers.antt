use Rattle.std.proofs.Common.{arith, ◌≡◌, ◌<◌, ℕ, Bool, true, sym, ◌∙◌}
use borrow.Author.Tests.{lt-ltb}
use Rattle.transport.specs.Problem.{Eligible}
use Rattle.book.specs.Table.{entry, admits_by}
use Rattle.order.specs.declared.pairs.Check.{Check}
use Rattle.order.proofs.Checks.{P, lots_in, calls_in, admits_are, admitted_is}
use Rattle.order.proofs.pairs.Check.meet.Goals as goal

-- what the test of the table says of the book's own problem
admits_is : (s : Check) (i j : ℕ) {r b : Bool} → r ≡ admits_by s.offsets.now s.book.now.counts.lots s.book.now.counts.calls i j → r ≡ b
    → (P s).admits i j ≡ b
admits_is s i j is e = sym (admits_are s i j) ∙ sym is ∙ e

eligible_pair : (s : Check) (i j : ℕ) {r : Bool} → r ≡ admits_by s.offsets.now s.book.now.counts.lots s.book.now.counts.calls i j → r ≡ true
    → Eligible (P s) i j × (i < 32) × (j < 32)
eligible_pair s i j is e = admitted_is s i j (admits_is s i j is e)

pub eligible-requires : goal.eligible-requires
eligible-requires c = (lots_in c.args.self.now, calls_in c.args.self.now)

pub returns-then-not-eligible-clause-says : goal.returns-then-not-eligible-clause-says
returns-then-not-eligible-clause-says c = rw (admits_is c.args.self.now _ _ c.eligible.ensures c.if-not-eligible.true)

pub overflow_mul-at : goal.overflow_mul-at
overflow_mul-at c = let (_, lot_in, call_in) = eligible_pair c.args.self.now _ _ c.eligible.ensures c.if-not-eligible.false in omega (arith, lot_in, call_in)

pub overflow_add-at : goal.overflow_add-at
overflow_add-at c = let (_, lot_in, call_in) = eligible_pair c.args.self.now _ _ c.eligible.ensures c.if-not-eligible.false in omega (arith, lot_in, call_in)

pub offset_bounds-places-at : goal.offset_bounds-places-at
offset_bounds-places-at c = let (_, lot_in, call_in) = eligible_pair c.args.self.now _ _ c.eligible.ensures c.if-not-eligible.false in omega (arith, lot_in, call_in)

pub bounds-places-at : goal.bounds-places-at
bounds-places-at c = let (_, lot_in, call_in) = eligible_pair c.args.self.now _ _ c.eligible.ensures c.if-not-eligible.false in omega (arith, lot_in, call_in)

pub offset_bounds-places-at-2 : goal.offset_bounds-places-at-2
offset_bounds-places-at-2 c = let (_, lot_in, call_in) = eligible_pair c.args.self.now _ _ c.eligible.ensures c.if-not-eligible.false in omega (arith, lot_in, call_in)

pub bounds-places-at-2 : goal.bounds-places-at-2
bounds-places-at-2 c = let (_, lot_in, call_in) = eligible_pair c.args.self.now _ _ c.eligible.ensures c.if-not-eligible.false in omega (arith, lot_in, call_in)

pub returns-then-places-at-gt0-clause-says : goal.returns-then-places-at-gt0-clause-says
returns-then-places-at-gt0-clause-says c =
    let met : 0 < entry c.args.places.now c.args.i.0 c.args.j.0 = omega arith in
    rw (admits_is c.args.self.now _ _ c.eligible.ensures c.if-not-eligible.false, lt-ltb _ _ met)

pub returns-clause-says : goal.returns-clause-says
returns-clause-says c =
    let none : entry c.args.places.now c.args.i.0 c.args.j.0 ≡ 0 = omega arith in
    rw (admits_is c.args.self.now _ _ c.eligible.ensures c.if-not-eligible.false, none)

pub returns-clause-eligible : goal.returns-clause-eligible
returns-clause-eligible c = (eligible_pair c.args.self.now _ _ c.eligible.ensures c.if-not-eligible.false).0
