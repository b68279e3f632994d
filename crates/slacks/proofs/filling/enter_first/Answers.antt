-- `slacks::filling::enter_first` meets its contract: each turn enters the next call, whose bit is set, and no bit after the last is set.
use Rattle.std.proofs.Common.{◌≡◌, ℕ, ◌<◌, ◌^◌, ◌≤◌, List, arith}
use lib.Count.{ones, ones-le}
use Rattle.specification.specs.Book.{row_word, row_at, book_lots}
use Rattle.rows.specs.Words.{SetFrom}
use Rattle.rows.proofs.Bits.{bit_first, bit_after}
use Rattle.slacks.specs.Filling.{Reached}
use Rattle.slacks.proofs.Entering.{AtCost, lot_within, at_cost, reached_to, reached_all}
use Rattle.slacks.proofs.filling.enter_first.Goals as goal

next_cost : {book slacks : List ℕ} {i j next word : ℕ} → Reached book i j next slacks → i < book_lots book → word ≡ row_word (row_at book i)
    → word < 2 ^ ones word → j < ones word → AtCost book i j next slacks
next_cost {j = j} {word = word} r lot_in word_is first few = at_cost r lot_in (rw word_is at (bit_first word first j few))

pub overflow_add-next : goal.overflow_add-next
overflow_add-next c = let known = lot_within c.requires.reached c.requires.lot_in in record { fits = omega arith }

pub cost_at-requires : goal.cost_at-requires
cost_at-requires c = let p = c.requires in (next_cost c.loop-j.invariant p.lot_in p.word_is p.first (omega arith)).fits

pub slack_of-requires : goal.slack_of-requires
slack_of-requires c = let p = c.requires in rw c.cost_at.ensures (next_cost c.loop-j.invariant p.lot_in p.word_is p.first (omega arith)).low

pub bounds-slacks-i : goal.bounds-slacks-i
bounds-slacks-i c = let p = c.requires in (next_cost c.loop-j.invariant p.lot_in p.word_is p.first (omega arith)).inside

pub overflow_add-next-in-loop-j : goal.overflow_add-next-in-loop-j
overflow_add-next-in-loop-j c =
    let p = c.requires in
    let known = next_cost c.loop-j.invariant p.lot_in p.word_is p.first (omega arith) in
    record { fits = omega (arith, known.short) }

pub loop-j-preserved : goal.loop-j-preserved
loop-j-preserved c =
    let p = c.requires in
    rw (c.slack_of.ensures, c.cost_at.ensures) (next_cost c.loop-j.invariant p.lot_in p.word_is p.first (omega arith)).entered

pub returns : goal.returns
returns c =
    let p = c.requires in
    let few : ones c.args.word ≤ 32 = ones-le 32 _ c.ranges.word.fits in
    let none : SetFrom c.args.word c.loop-j.j 32 =
    record {
      clear = λ k from below. bit_after _ p.first k (omega arith);
      is_set = λ h. absurd (omega arith);
      within = omega arith;
      not_below = λ h. h;
    } in
    let to = reached_to c.loop-j.invariant p.lot_in (rw p.word_is at none) in
    reached_all to p.lot_in (lot_within p.reached p.lot_in).1
