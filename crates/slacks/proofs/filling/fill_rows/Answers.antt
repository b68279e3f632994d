-- All lots entered state the book's problem (`stated_same`, `stated_idle`).
use Rattle.std.proofs.Common.{◌≡◌, ℕ, ◌/◌, ◌%◌, ◌<◌, ◌≤◌, ◌++◌, List, length, take, drop, replicate, refl, ◌∙◌, arith, rules}
use lib.ListN.{length-replicate}
use Rattle.specification.specs.Book.{row_word, row_at, row_start, book_lots}
use Rattle.rows.proofs.Bits.{ones_below_none}
use Rattle.book.proofs.Readable.{Read, read_is}
use Rattle.slacks.specs.Slacks.{slack_in}
use Rattle.slacks.specs.Filling.{Filled, Reached}
use Rattle.slacks.proofs.Filled.{stated_same, stated_idle}
use Rattle.slacks.proofs.Entering.{filled_none, filled_more, filled_front, word_is, lot_within, slack_here, filled_slacks, filled_words}
use Rattle.slacks.proofs.filling.fill_rows.Goals as goal

module _ {book : List ℕ} {n m : ℕ} (r : Read book n m) where
  -- no lot is entered at first
  none : Reached book 0 0 11 (replicate 1024 0)
  unfolding row_start
  none =
      let entered = filled_none {Holds = λ x slack. slack ≡ slack_in book (x / 32) (x % 32)} {before = replicate 1024 0} refl in
      let first = ones_below_none (row_word (row_at book 0)) in
      let readable = r.is_readable in
      search rules

  lots_few : n ≤ 32
  lots_few = omega (arith, r.lots_is, r.known.lots_within)

  lot_in : {i : ℕ} → i < n → i < book_lots book
  lot_in here = omega (arith, r.lots_is)

  -- a lot of the book has its row
  room : {i next : ℕ} {slacks : List ℕ} → i < n → Reached book i 0 next slacks → next ≤ length book
  room here reached = (lot_within reached (lot_in here)).2

  -- all lots are entered
  module _ {i next : ℕ} {slacks words front : List ℕ} (zeros : words ≡ replicate 32 0)
      (entered : Reached book i 0 next slacks × Filled (λ k word. word ≡ row_word (row_at book k)) i (take n words) front) (e : i ≡ n) where
    all : Reached book n 0 next slacks
    all = rw e at entered.0

    all_words : Filled (λ k word. word ≡ row_word (row_at book k)) n (replicate 32 0) (front ++ drop n words)
    all_words = rw zeros (filled_front (omega (arith, lots_few, length-replicate {A = ℕ} 32 0)) (rw (e, zeros) at entered.1))

pub slice_bounds-own-items-end : goal.slice_bounds-own-items-end
slice_bounds-own-items-end c = lots_few (read_is _ _ c.args.book.now.readable)

pub loop-i-init : goal.loop-i-init
loop-i-init c = let (slacks, _) = c.requires in (rw slacks (none (read_is _ _ c.args.book.now.readable)), filled_none refl)

pub cost_at-requires : goal.cost_at-requires
cost_at-requires c = let r = read_is _ _ c.args.book.now.readable in room r (omega arith) c.loop-i.invariant.0

pub enter_lot-at-requires : goal.enter_lot-at-requires
enter_lot-at-requires c =
    let r = read_is _ _ c.args.book.now.readable in
    let reached = c.loop-i.invariant.0 in
    (reached, lot_in r (omega arith), c.cost_at.ensures ∙ word_is _ reached)

pub loop-i-preserved : goal.loop-i-preserved
loop-i-preserved c =
    let (reached, words) = c.loop-i.invariant in
    (c.enter_lot-at.ensures, filled_more words _ c.loop-i-test.true (c.cost_at.ensures ∙ word_is _ reached))

pub returns : goal.returns
returns c =
    let r = read_is _ _ c.args.book.now.readable in
    let e : c.loop-i.i ≡ c.args.book.now.counts.lots = omega arith in
    let slacks = all r c.requires.1 c.loop-i.invariant e in
    let words = all_words r c.requires.1 c.loop-i.invariant e in
    record {
      same = stated_same r _ (slack_here r slacks);
      same_enlarged = stated_idle r _ (slack_here r slacks);
      are = filled_slacks r slacks;
      eligible = filled_words r slacks words;
    }
