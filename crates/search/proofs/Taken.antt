-- What stands once a pair is taken: what was left is left but for the pair, and a mark that stays has what it had to hinder its pair.
use mathlib.Core.Path.{◌≡◌, sym, ap, ◌∙◌}
use mathlib.Core.Logic.{⊎_elim, by_cases}
use mathlib.Core.Bool.{Bool, true, false, cond, true≢false, and-false, or-true}
use mathlib.Core.List.{List}
use Prim.Native.Nat.{ℕ, ◌+◌, ◌*◌, ◌<◌}
use native.Mathlib.Decide.{ℕ_discrete}
use native.Mathlib.Omega.{arith}
use borrow.Author.Tests.{eqb-true}
use lib.ListN.{length, get_or, set, length-set}
use lib.Seq.{get_or-set_same, get_or-set_other}
use Rattle.transport.proofs.Laws.Tests.{false_of, and_right}
use Rattle.specification.specs.Book.{bit}
use Rattle.words.specs.Lefts.{is_left, TakenFrom}
use Rattle.words.proofs.Lefts.{same_pair, gone, stays, fewer}
use Rattle.lines.specs.Lines.{EndsKept}
use Rattle.ranks.specs.declared.Ranking.{Ranking}
use Rattle.trial.specs.declared.table.Given.{Given}
use Rattle.trial.specs.Testing.{Raised}
use Rattle.search.specs.declared.marks.Half.{Half}
use Rattle.search.specs.declared.Search.{Search}
use Rattle.search.specs.Marks.{HalfOf, marked, Asked, TakenMarks, Standing}
use Rattle.search.specs.Steps.{Unmarked, Taken}
use Rattle.search.proofs.Trials.{or_elim}

module _ {i j : ℕ} {lefts lefts' : List ℕ} (t : TakenFrom i j lefts lefts') where
  -- the raised slack of the pair is 0
  raised_then : {slacks compared : List ℕ} → i < 32 → j < 32 → length compared ≡ 1024 → Raised slacks lefts compared → Raised slacks lefts' (set compared (32 * i + j) 0)
  raised_then {slacks} {compared} hi hj long r = record {
    on = λ a l ha hl e. other a l hl (λ z. true≢false (sym e ∙ gone t a l z)) ∙ r.on a l ha hl (fewer t a l e);
    gone = λ a x l on hl e. ⊎_elim (λ z. rw (z.0, z.1) own) (λ d. other a l hl d ∙ r.gone a x l (fewer t a x on) hl (sym (stays t a l d) ∙ e)) (same_pair a l i j);
    low = λ x. by_cases (ℕ_discrete x (32 * i + j)) (λ z. rw (z, own) (omega arith)) (λ d. rw (get_or-set_other compared (32 * i + j) x 0 0 d) (r.low x));
  }
    where
      own : get_or (set compared (32 * i + j) 0) (32 * i + j) 0 ≡ 0
      own = get_or-set_same compared (32 * i + j) 0 0 (omega arith)

      other : (a l : ℕ) → l < 32 → ((a ≡ i) × (l ≡ j) → ⊥) → get_or (set compared (32 * i + j) 0) (32 * a + l) 0 ≡ get_or compared (32 * a + l) 0
      other a l hl d = get_or-set_other compared (32 * i + j) (32 * a + l) 0 0 (λ z. d (omega arith, omega arith))

  -- what hinders a pair whose mark stays is left, and by ranks it stays at the ends
  half_then : {ranked : Bool} {slacks nears nears' fars fars' taken : List ℕ} {other half half' : Half} {again : ℕ} → HalfOf ranked slacks lefts nears fars half
      → EndsKept i j lefts' nears nears' → EndsKept i j lefts' fars fars'
      → Unmarked ranked i j (get_or nears i 0) (get_or fars (32 + j) 0) taken other half half' again
      → HalfOf ranked slacks lefts' nears' fars' half'
  half_then {nears = nears} {fars = fars} h n f less = record {
    hindered = λ a l e m.
        let x = h.hindered a l (fewer t a l e) (less.fewer a l m) in
        let in_row : (a ≡ i) × (x.call ≡ j) → ⊥ = λ (y, z).
        let (by_ranks, other) = less.row_stays l (rw y at m) in
        other (ap (λ (a : ℕ). get_or nears a 0) (sym y) ∙ sym (x.cornered by_ranks).1 ∙ z) in
        let in_column : (x.lot ≡ i) × (l ≡ j) → ⊥ = λ (y, z).
        let (by_ranks, other) = less.column_stays a (rw z at m) in
        other (ap (λ (l : ℕ). get_or fars (32 + l) 0) (sym z) ∙ sym (x.cornered by_ranks).0 ∙ y) in
        record {
          lot = x.lot;
          call = x.call;
          by_it = record {
            held = stays t x.lot l in_column ∙ x.by_it.held;
            left = stays t a x.call in_row ∙ x.by_it.left;
            unfit = x.by_it.unfit;
          };
          cornered = λ by_ranks. let (y, z) = x.cornered by_ranks in (
            y ∙ sym (f.column a l e (λ (u, v). in_column (y ∙ v, u))),
            z ∙ sym (n.row a l e (λ (u, v). in_row (u, z ∙ v))),
          );
        };
    waits_are = less.waits_are;
  }

  -- the mark of the pair is put
  taken_then : {eligible taken : List ℕ} → i < 32 → j < 32 → TakenMarks eligible lefts taken → TakenMarks eligible lefts' (set taken (32 * i + j) 1)
  taken_then {eligible} {taken} hi hj m = record {
    each = λ a l ha hl. ⊎_elim
        (λ z. gone t a l z ∙ rw (z.0, z.1, get_or-set_same taken (32 * i + j) 1 0 (omega (arith, m.long))) (sym (and-false (is_left eligible i j))))
        (λ d. stays t a l d ∙ m.each a l ha hl ∙ rw (get_or-set_other taken (32 * i + j) (32 * a + l) 1 0 (λ z. d (omega arith, omega arith))))
        (same_pair a l i j);
    long = length-set taken (32 * i + j) 1 ∙ m.long;
  }

lowered_long : (compared : List ℕ) (x : ℕ) (b : Bool) → length compared ≡ 1024 → length (cond b compared (set compared x 0)) ≡ 1024
lowered_long compared x true e = e
lowered_long compared x false e = length-set compared x 0 ∙ e

-- all that is kept
module _ {given : Given} {i j : ℕ} {search search' : Search} {compared compared' : List ℕ} (t : Taken given.ranking.now i j search search' compared compared') where
  pub standing_then : i < 32 → j < 32 → Standing given search compared → Standing given search' compared'
  standing_then hi hj s = let from = t.from_lot in
      record {
        kept = record {
          among = λ a l e. s.kept.among a l (fewer from a l e);
          lined = t.lined;
          ended = t.ended;
          raised_is = λ e. rw (t.lowered, e) (raised_then from hi hj s.kept.compared_long (s.kept.raised_is e));
          costs_are = λ e. rw (t.lowered, e) (s.kept.costs_are e);
          lefts_long = from.long ∙ s.kept.lefts_long;
          compared_long = rw t.lowered (lowered_long compared (32 * i + j) given.ranking.now.ranked s.kept.compared_long);
        };
        passed_is = record {
          each = λ a l p ha hl lt. record { fits = λ e c f. (s.passed_is.each a l p ha hl (rw t.passed_kept at lt)).fits (fewer from _ l e) c (fewer from a c f) };
          long = rw t.passed_kept s.passed_is.long;
        };
        marks = record {
          low_half = half_then from s.marks.low_half t.nears_kept t.fars_kept t.low_unmarked;
          high_half = half_then from s.marks.high_half t.fars_kept t.nears_kept t.high_unmarked;
        };
      }

-- the marks of the pairs that are taken, and the lots to be asked
module _ {ranking : Ranking} {i j : ℕ} {search search' : Search} {compared compared' : List ℕ} (t : Taken ranking i j search search' compared compared') where
  pub marks_then : {eligible : List ℕ} → i < 32 → j < 32 → TakenMarks eligible search.left.lefts search.taken → TakenMarks eligible search'.left.lefts search'.taken
  marks_then hi hj m = rw t.mark_put (taken_then t.from_lot hi hj m)

  -- a lot but i that is not asked again has its marks, or one in the other half
  still_marked : (k l : ℕ) → (k ≡ i → ⊥) → bit t.again k ≡ false → get_or search'.taken (32 * k + l) 0 ≡ 0 → marked search.low search.high k l ≡ true
      → marked search'.low search'.high k l ≡ true
  still_marked k l d off free m = or_elim (is_left search.low.marks k l) (is_left search.high.marks k l) m
      (λ f. or_elim (is_left search'.low.marks k l) (is_left search.high.marks k l) (t.low_unmarked.asked k l d low_off free f) (λ y. rw y) in_high)
      in_high
    where
      low_off : bit t.low_again k ≡ false
      low_off = false_of (bit t.low_again k) (λ on. true≢false (sym (t.asked_again.each k ∙ rw on) ∙ off))

      in_high : is_left search.high.marks k l ≡ true → marked search'.low search'.high k l ≡ true
      in_high f =
          let high_off = false_of (bit t.high_again k) (λ on. true≢false (sym (t.asked_again.each k ∙ rw on (or-true (bit t.low_again k))) ∙ off)) in
          or_elim (is_left search'.high.marks k l) (is_left search'.low.marks k l) (t.high_unmarked.asked k l d high_off free f)
          (λ y. rw y (or-true (is_left search'.low.marks k l)))
          (λ y. rw y)

  pub asked_then : {eligible : List ℕ} → TakenMarks eligible search'.left.lefts search'.taken
      → ((k l : ℕ) → is_left search'.left.lefts k l ≡ true → (k < 32) × (l < 32))
      → Asked search.left.lefts search.low search.high search.to_ask → bit search.to_ask i ≡ true
      → Asked search'.left.lefts search'.low search'.high search'.to_ask
  asked_then {eligible} marks few asked own = record {
    each = λ k l e o.
        let off = false_of (bit search.to_ask k) (λ on. true≢false (sym (rw on at (t.asked.each k)) ∙ o)) in
        let (hk, hl) = few k l e in
        still_marked k l (λ z. true≢false (sym own ∙ ap (bit search.to_ask) (sym z) ∙ off)) (sym (rw off at (t.asked.each k)) ∙ o)
        (eqb-true _ 0 (and_right (is_left eligible k l) _ (sym (marks.each k l hk hl) ∙ e))) (asked.each k l (fewer t.from_lot k l e) off);
  }
