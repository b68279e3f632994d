-- The marks of a half that a pair takes with it, in its lot's row and in its call's column: what stays, which lots wait for it, and which are asked
-- again.
use mathlib.Core.Path.{◌≡◌, refl, sym, ap, ◌∙◌}
use mathlib.Core.Logic.{by_cases}
use mathlib.Core.Bool.{Bool, true, false, cond, not, ◌&&◌, true≢false, and-true, or-true, Bool-discrete}
use mathlib.Core.List.{List}
use Prim.Native.Nat.{ℕ, ◌<◌}
use native.Mathlib.Decide.{ℕ_discrete}
use native.Mathlib.Omega.{arith}
use borrow.Author.Tests.{eqb-true, eq-eqb, not-false}
use lib.Dec.{eqb}
use lib.ListN.{length, get_or, set, length-set}
use lib.Seq.{get_or-set_same, get_or-set_other}
use Rattle.transport.proofs.Laws.Tests.{false_of, and_left, and_right}
use Rattle.specification.specs.Book.{bit}
use Rattle.words.specs.Lefts.{is_left}
use Rattle.words.proofs.Sets.{bit_none}
use Rattle.search.specs.declared.marks.Half.{Half}
use Rattle.search.specs.Marks.{Waiting}
use Rattle.search.specs.Steps.{MayGo, Released, Unmarked}

-- what is in a word that may be gone is in it, and it is not
in_row : (row : Bool) (word l : ℕ) → bit (cond row 0 word) l ≡ true → (row ≡ false) × (bit word l ≡ true)
in_row true word l e = absurd (true≢false (sym e ∙ bit_none l))
in_row false word l e = (refl, e)

pub unmarked : {ranked : Bool} {i j row_end column_end : ℕ} {row column : Bool} {taken : List ℕ} {other half half' : Half} {word lots rest again : ℕ} → i < 32 → j < 32
    → Waiting half → MayGo ranked row_end j row → MayGo ranked column_end i column → word ≡ cond row 0 (get_or half.marks i 0)
    → lots ≡ cond (not column) 0 (get_or half.waits j 0) → rest ≡ cond column 0 (get_or half.waits j 0)
    → Released j (bit lots) taken other.marks (set half.marks i word) half'.marks again → half'.waits ≡ set half.waits j rest
    → Unmarked ranked i j row_end column_end taken other half half' again
unmarked {i = i} {j} {row = row} {column} {taken} {other} {half} {half'} {word} {lots} {rest} {again} hi hj h r g emptied looked left c kept = record {
  fewer = λ k l e. (was k l e).0;
  row_stays = λ l e. r.stays ((was i l e).1 refl);
  column_stays = λ k e. g.stays (column_off k e);
  waits_are = record {
    waiting = λ k l e. by_cases (ℕ_discrete l j)
        (λ z. rw (z, kept, get_or-set_same half.waits j rest 0 (omega (arith, h.waits_long)), left, column_off k (rw z at e)) (h.waiting k j (was k j (rw z at e)).0))
        (λ d. rw (kept, get_or-set_other half.waits j l rest 0 d) (h.waiting k l (was k l e).0));
    long = c.long ∙ length-set half.marks i word ∙ h.long;
    waits_long = ap length kept ∙ length-set half.waits j rest ∙ h.waits_long;
  };
  asked = λ k l d off free m.
      let kept : is_left (set half.marks i word) k l ≡ true = ap (λ (w : ℕ). bit w l) (get_or-set_other half.marks i k word 0 d) ∙ m in
      by_cases (Bool-discrete (eqb l j && bit lots k) true)
      (λ on.
      let z = eqb-true l j (and_left (eqb l j) _ on) in
      let held : is_left other.marks k j ≡ true = not-false _ (sym (and-true _) ∙ sym (rw (and_right (eqb l j) _ on, eq-eqb _ 0 (rw z at free)) at (c.again_are k)) ∙ off) in
      rw (z, held) (or-true (is_left half'.marks k j)))
      (λ no. rw (c.cleared k l, false_of (eqb l j && bit lots k) no, kept));
}
  where
    -- a mark that stays was there, and in the row it is not gone
    was : (k l : ℕ) → is_left half'.marks k l ≡ true → (is_left half.marks k l ≡ true) × (k ≡ i → row ≡ false)
    was k l e =
        let had = and_right (not (eqb l j && bit lots k)) _ (sym (c.cleared k l) ∙ e) in
        by_cases (ℕ_discrete k i)
        (λ z. let (y, x) = in_row row (get_or half.marks i 0) l (sym (ap (λ (w : ℕ). bit w l) (get_or-set_same half.marks i word 0 (omega (arith, h.long)) ∙ emptied)) ∙ rw z at had) in (rw z x, λ o. y))
        (λ d. (sym (ap (λ (w : ℕ). bit w l) (get_or-set_other half.marks i k word 0 d)) ∙ had, λ z. absurd (d z)))

    -- where the column is gone, all that wait are looked at, so none stays
    column_off : (k : ℕ) → is_left half'.marks k j ≡ true → column ≡ false
    column_off k e = false_of column (λ t.
        let on : bit lots k ≡ true = rw (looked, t) (h.waiting k j (was k j e).0) in
        true≢false (sym e ∙ c.cleared k j ∙ rw (eq-eqb j j refl, on)))
