-- `walk::gaps::Gaps::enter` meets its contract: over all calls, of which the word is then taken, or over the word alone.
use Rattle.std.proofs.Common.{◌≡◌, ℕ, ◌+◌, ◌*◌, ◌<◌, Bool, ◌&&◌, sym, ap, ◌∙◌, ap₂, arith, lt-ltb}
use Rattle.specification.specs.Book.{bit}
use Rattle.book.specs.Table.{entry}
use Rattle.words.proofs.Sets.{bit_and_lem}
use Rattle.walk.specs.Gaps.{gap_over, table_gap}
use Rattle.walk.proofs.gaps.Gaps.enter.Goals as goal

pub lower_row-requires : goal.lower_row-requires
lower_row-requires c =
    let costs = c.args.costs.now in
    let i = c.args.i.0 in
    let side = c.in-Some.ensures in
    record {
      stands = λ l h. rw (← side.from l h) (record {
        within = costs.tabled.within (32 * i + l) (omega (arith, c.requires.lot_in, costs.few_calls));
        cheap = costs.tabled.cheap (32 * i + l) (omega (arith, c.requires.lot_in, costs.few_calls))
            (λ none. omega (arith, side.from l h, side.some));
      });
      own_cheap = omega (
        arith,
        c.cost_of-own.ensures,
        costs.tabled.cheap (32 * i + c.args.j.0) (omega (arith, c.requires.lot_in, c.requires.call_in, costs.few_calls)) c.requires.in_table,
      );
      call_in = omega (arith, c.requires.call_in, costs.few_calls);
    }

pub returns-in-Some : goal.returns-in-Some
returns-in-Some c =
    let a = c.args in
    let costs = a.costs.now in
    let done = c.lower_row.ensures in
    let in_row : (l : ℕ) → l < costs.calls → l < 32 = λ l h. omega (arith, costs.few_calls) in
    let gap_is : (l : ℕ) → l < costs.calls → gap_over costs.book.now c.cost_of-own.result (c.in-Some.start + 4 * l)
    ≡ table_gap costs.book.now costs.offsets.now a.i.0 a.j.0 l =
    λ l h. ap₂ (gap_over costs.book.now) c.cost_of-own.ensures (sym (c.in-Some.ensures.from l h)) in
    record {
      lowers = λ l h word-has. rw (← gap_is l h) (done.lowers l (in_row l h) ∙ rw (lt-ltb l costs.calls h));
      others = λ b l hb hl ne. done.others b l (in_row b hb) (in_row l hl) ne;
      says = λ l h. bit_and_lem a.word c.lower_row.result l
          ∙ ap (λ (t : Bool). bit a.word l && t) (done.says l (in_row l h) ∙ rw (lt-ltb l costs.calls h, gap_is l h));
    }

pub returns-in-None : goal.returns-in-None
returns-in-None c =
    let a = c.args in
    let costs = a.costs.now in
    let done = c.lower_set.ensures in
    let in_row : (l : ℕ) → l < costs.calls → l < 32 = λ l h. omega (arith, costs.few_calls) in
    let gap_is : (l : ℕ) → gap_over costs.book.now c.cost_of-own.result (entry costs.offsets.now a.i.0 l)
    ≡ table_gap costs.book.now costs.offsets.now a.i.0 a.j.0 l =
    λ l. ap (λ (own : ℕ). gap_over costs.book.now own (entry costs.offsets.now a.i.0 l)) c.cost_of-own.ensures in
    record {
      lowers = λ l h word-has. rw (← gap_is l) (done.lowers l (in_row l h) ∙ rw word-has);
      others = λ b l hb hl ne. done.others b l (in_row b hb) (in_row l hl) ne;
      says = λ l h. rw (← gap_is l) (done.says l (in_row l h));
    }
