-- That no lot below another has a free pair; and the word of the calls left to a lot, by the marks of the pairs taken.
use mathlib.Core.Path.{◌≡◌, refl, sym, ◌∙◌, ap}
use mathlib.Core.Logic.{⊎_elim, by_cases}
use mathlib.Core.Bool.{true, false, true≢false, and-true, and-false}
use mathlib.Core.List.{List}
use Prim.Native.Nat.{ℕ, ◌+◌, ◌*◌, ◌^◌, ◌<◌}
use native.Mathlib.Decide.{dec_lt}
use native.Mathlib.Omega.{arith}
use borrow.Author.Tests.{eq-eqb, eqb-true}
use lib.ListN.{length, get_or, set, length-set}
use lib.Seq.{get_or-set_same, get_or-set_other}
use Rattle.transport.proofs.Laws.Tests.{false_of}
use Rattle.specification.specs.Book.{bit}
use Rattle.words.specs.Words.{Minus, Begins}
use Rattle.words.specs.Lefts.{is_left, TakenFrom}
use Rattle.words.proofs.Sets.{bit_none, bit_single}
use Rattle.words.proofs.Lefts.{same_pair, gone, stays}
use Rattle.panel_table.specs.Filling.{cell}
use Rattle.panel.specs.Search.{Frees, is_taken, OwnCalls, TakenMarks}

-- none of the lots below i has a free pair
pub record NoneBelow (lefts least : List ℕ) (i : ℕ) : Type 0 where
  pub none : (a l : ℕ) → a < i → Frees lefts least 8 a l → ⊥

-- ---- the marks of the pairs that are taken

-- none at first
pub marks_none : {eligible taken : List ℕ} → ((x : ℕ) → get_or taken x 0 ≡ 0) → length taken ≡ 64 → TakenMarks eligible eligible taken
marks_none {eligible} {taken} zeros long = record {
  each = λ i j hi hj. rw (zeros (8 * i + j), bit_none j) (sym (and-true (is_left eligible i j)));
  own = λ i hi j l hj e. absurd (true≢false (sym e ∙ ap (λ (w : ℕ). bit w l) (zeros (8 * i + j)) ∙ bit_none l));
  long = long;
}

module _ {eligible lefts taken : List ℕ} {i j : ℕ} (m : TakenMarks eligible lefts taken) (hi : i < 8) (hj : j < 8) where
  abbrev put : List ℕ
  put = set taken (8 * i + j) (2 ^ j)

  here : cell put i j ≡ 2 ^ j
  here = get_or-set_same taken (8 * i + j) (2 ^ j) 0 (omega (arith, m.long))

  elsewhere : (a l : ℕ) → l < 8 → ((a ≡ i) × (l ≡ j) → ⊥) → cell put a l ≡ cell taken a l
  elsewhere a l hl d = get_or-set_other taken (8 * i + j) (8 * a + l) (2 ^ j) 0 (λ z. d (omega arith, omega arith))

  -- that of (i, j) is put
  pub own_put : (a : ℕ) → a < 8 → OwnCalls put a
  own_put a ha l x hl e = ⊎_elim
      (λ z. rw z.1 (eqb-true x j (sym (bit_single j x) ∙ rw (z.0, z.1, here) at e)))
      (λ d. m.own a ha l x hl (rw (elsewhere a l hl d) at e))
      (same_pair a l i j)

  pub mark_put : {lefts' : List ℕ} → TakenFrom i j lefts lefts' → TakenMarks eligible lefts' put
  mark_put t = record {
    each = λ a l ha hl. ⊎_elim
        (λ z. gone t a l z ∙ rw (z.0, z.1, here, bit_single j j, eq-eqb j j refl) (sym (and-false (is_left eligible i j))))
        (λ d. stays t a l d ∙ m.each a l ha hl ∙ rw (elsewhere a l hl d))
        (same_pair a l i j);
    own = own_put;
    long = length-set taken (8 * i + j) (2 ^ j) ∙ m.long;
  }

  -- then the calls of lot i that are eligible and not taken are those left to it but j
  pub left_by_marks : {calls w : ℕ} → ((l : ℕ) → is_left eligible i l ≡ true → l < 8) → ((l : ℕ) → is_left lefts i l ≡ true → l < 8)
      → Begins (is_taken put i) 8 calls → Minus (get_or eligible i 0) calls w → (bit w j ≡ false) × ((l : ℕ) → (l ≡ j → ⊥) → bit w l ≡ is_left lefts i l)
  left_by_marks in_eligible in_lefts b d = (
    d.each j ∙ rw (b.first j hj, here, bit_single j j, eq-eqb j j refl) (and-false (is_left eligible i j)),
    λ l o. by_cases (dec_lt l 8)
        (λ h. d.each l ∙ rw (b.first l h, elsewhere i l h (λ z. o z.1)) (sym (m.each i l hi h)))
        (λ h. d.each l ∙ rw (false_of (is_left eligible i l) (λ e. h (in_eligible l e)), false_of (is_left lefts i l) (λ e. h (in_lefts l e)))),
  )
