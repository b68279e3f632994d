-- A word less the numbers of another, digit by digit; so one number taken out, and one put in.
use Rattle.std.proofs.Common.{◌≡◌, ◌≢◌, ℕ, suc, ◌+◌, ◌-◌, ◌*◌, ◌/◌, ◌%◌, ◌^◌, ◌<◌, ◌≤◌, Bool, true, false, not, ◌&&◌, ◌||◌, eqb, refl, sym, ap, ◌∙◌, arith, eq-eqb, ne_eqb, true≢false, below_more}
use mathlib.Core.Path.{subst⁻¹}
use mathlib.Core.Logic.{by_cases}
use mathlib.Core.Bool.{and-true, and-false, or-false}
use native.Mathlib.Nat.{mod-lt, lt_of_lt_of_le, lt_of_le_of_lt, pow-suc, div-add-mod'}
use native.Mathlib.Numerals.{add-one}
use native.Mathlib.Decide.{ℕ_discrete, dec_lt}
use Rattle.std.specs.Int.{bit_at, from_bool}
use Rattle.std.proofs.lemmas.Nat.Bits.{bit_at-lt, bit_at_cat_low, bit_at_cat_high, bit_at_ones_above, same_from_bits}
use borrow.Author.Tests.{eqb-true, eqb-false}
use lib.Bits.{bit_and, bit_or, and_le_l, and_le_r}
use lib.Pow.{pow_pos, field, mod-mod-pow, pow_mono}
use Rattle.specification.specs.Book.{bit}
use Rattle.rows.proofs.Bits.{bit_past, below_power, one_shifted}
use Rattle.words.specs.Words.{LowestIn, Below, Minus, Without, Begins, IncludingIf}
use Rattle.words.proofs.Sets.{bit_none, bit_or_lem, bit_and_lem, bit_not_lem, bit_single}
use Rattle.words.proofs.Ends.{lowest_is, word_positive}

-- the lower digits
pub below_is : (n j : ℕ) → Below n j (n % 2 ^ j)
below_is n j = record {
  lower = λ l lt. let d = j - l - 1 in
      let e : j ≡ (d + 1) + l = omega arith in
      ap (λ (x : ℕ). eqb x 1)
      (ap (λ (x : ℕ). n % 2 ^ x / 2 ^ l % 2) e ∙ ap (λ (x : ℕ). x % 2) (field n (d + 1) l) ∙ mod-mod-pow (n / 2 ^ l) d 1);
  none = λ l h. bit_past (n % 2 ^ j) l (lt_of_lt_of_le (mod-lt n (pow_pos j)) (pow_mono h));
}

-- a word less another
less_is : (w o l : ℕ) → w < 2 ^ 32 → o < 2 ^ 32 → bit (bit_and w (4294967295 - o)) l ≡ (bit w l && not (bit o l))
less_is w o l hw ho = bit_and_lem w (4294967295 - o) l ∙ by_cases (dec_lt l 32)
    (λ h. ap (λ (b : Bool). bit w l && b) (bit_not_lem o l ho h))
    (λ h. rw (bit_past w l (below_power l hw (omega arith))))

pub minus_is : (w o : ℕ) → w < 2 ^ 32 → o < 2 ^ 32 → Minus w o (bit_and w (4294967295 - o))
minus_is w o hw ho = record {
  each = λ l. less_is w o l hw ho;
  some = λ p. let low = lowest_is _ p (lt_of_le_of_lt (and_le_l w (4294967295 - o)) hw) in (_, low.0, low.1);
}

pub without_is : (w j : ℕ) → w < 2 ^ 32 → j < 32 → Without w j (bit_and w (4294967295 - 1 * 2 ^ j % 4294967296))
without_is w j hw hj = rw (one_shifted j hj) (record { out = out; others = others; lower = lower })
  where
    single : 2 ^ j < 2 ^ 32
    single = let within : suc j ≤ 32 = omega arith in let up : 2 ^ suc j ≤ 2 ^ 32 = pow_mono within in omega (arith, up, pow-suc 2 j, pow_pos j)

    out : bit (bit_and w (4294967295 - 2 ^ j)) j ≡ false
    out = less_is w (2 ^ j) j hw single ∙ rw (bit_single j j, eq-eqb j j refl) (and-false (bit w j))

    others : (l : ℕ) → (l ≡ j → ⊥) → bit (bit_and w (4294967295 - 2 ^ j)) l ≡ bit w l
    others l d = less_is w (2 ^ j) l hw single ∙ rw (bit_single j l, ne_eqb l j d) (and-true (bit w l))

    lower : bit w j ≡ true → bit_and w (4294967295 - 2 ^ j) < w
    lower b = let ne : bit_and w (4294967295 - 2 ^ j) ≢ w = λ e. true≢false (sym b ∙ sym (ap (λ (x : ℕ). bit x j) e) ∙ out) in
        omega (arith, and_le_l w (4294967295 - 2 ^ j))

-- a word less 1 has the numbers above the lowest, and those below it: with the word it has all but the lowest
module _ (w j : ℕ) (low : LowestIn w j) where
  digit_same : (d e : ℕ) → d < 2 → e < 2 → eqb d 1 ≡ eqb e 1 → d ≡ e
  digit_same d e hd he same = by_cases (ℕ_discrete d 1)
      (λ one. omega (arith, eqb-true e 1 (sym same ∙ eq-eqb d 1 one)))
      (λ none. omega (arith, eqb-false e 1 (sym same ∙ ne_eqb d 1 none)))

  low_bit : (i : ℕ) → bit (w % 2 ^ (j + 1)) i ≡ bit (2 ^ j) i
  low_bit i = by_cases (ℕ_discrete i j)
      (λ (e : i ≡ j). rw (e, bit_single j j, eq-eqb j j refl) ((below_is w (j + 1)).lower j (omega arith) ∙ low.is_in))
      (λ ne. rw (bit_single j i, ne_eqb i j ne) (by_cases (dec_lt i j)
      (λ h. (below_is w (j + 1)).lower i (omega arith) ∙ low.none_below i h)
      (λ h. (below_is w (j + 1)).none i (omega arith))))

  low_part : w % 2 ^ (j + 1) ≡ 2 ^ j
  low_part = same_from_bits _ _ (λ i. digit_same _ _ (bit_at-lt (w % 2 ^ (j + 1)) i) (bit_at-lt (2 ^ j) i) (low_bit i))

  less_one : w - 1 ≡ w / 2 ^ (j + 1) * 2 ^ (j + 1) + (2 ^ j - 1)
  less_one = omega (arith, div-add-mod' w (2 ^ (j + 1)), low_part, pow_pos j)

  whole : w ≡ w / 2 ^ (j + 1) * 2 ^ (j + 1) + 2 ^ j
  whole = omega (arith, div-add-mod' w (2 ^ (j + 1)), low_part)

  small : 2 ^ j < 2 ^ (j + 1)
  small = rw add-one (omega (arith, pow_pos j, pow-suc 2 j))

  same_above : (l : ℕ) → j < l → bit (w - 1) l ≡ bit w l
  same_above l h = ap (λ (d : ℕ). eqb d 1) (ap (λ (x : ℕ). bit_at x l) less_one
      ∙ bit_at_cat_high (w / 2 ^ (j + 1)) (j + 1) (2 ^ j - 1) l (omega (arith, small)) (omega arith)
      ∙ sym (bit_at_cat_high (w / 2 ^ (j + 1)) (j + 1) (2 ^ j) l small (omega arith)) ∙ sym (ap (λ (x : ℕ). bit_at x l) whole))

  pub rest_is : Without w j (bit_and w (w - 1))
  rest_is = record { out = out; others = others; lower = λ own. omega (arith, and_le_r w (w - 1), word_positive w j own) }
    where
      both : (b : Bool) → (b && b) ≡ b
      both true = refl
      both false = refl

      out : bit (bit_and w (w - 1)) j ≡ false
      out = bit_and_lem w (w - 1) j ∙ rw less_one (ap (λ (d : ℕ). bit w j && eqb d 1)
          (bit_at_cat_low (w / 2 ^ (j + 1)) (j + 1) (2 ^ j - 1) j (omega arith) ∙ bit_at_ones_above j j (omega arith)) ∙ and-false (bit w j))

      others : (l : ℕ) → (l ≡ j → ⊥) → bit (bit_and w (w - 1)) l ≡ bit w l
      others l ne = bit_and_lem w (w - 1) l ∙ by_cases (dec_lt l j)
          (λ h. rw (low.none_below l h))
          (λ h. rw (same_above l (omega arith)) (both (bit w l)))

pub including_is : (w j : ℕ) → j < 32 → IncludingIf true w j (bit_or w (1 * 2 ^ j % 4294967296))
including_is w j h = rw (one_shifted j h) (record {
  own = bit_or_lem w (2 ^ j) j ∙ rw (bit_single j j, eq-eqb j j refl) (all (bit w j));
  others = λ l d. bit_or_lem w (2 ^ j) l ∙ rw (bit_single j l, ne_eqb l j d) (or-false (bit w l));
})
  where
    all : (b : Bool) → (b || true) ≡ true
    all true = refl
    all false = refl

-- the same where the test holds, and else nothing is put in
pub including_if_is : (test : Bool) (w j : ℕ) → j < 32 → IncludingIf test w j (bit_or w (from_bool test * 2 ^ j % 4294967296))
including_if_is true w j h = including_is w j h
including_if_is false w j h = rw nothing (record { own = same j; others = λ l d. same l })
  where
    nothing : 0 * 2 ^ j % 4294967296 ≡ 0
    nothing = omega arith

    same : (l : ℕ) → bit (bit_or w 0) l ≡ bit w l
    same l = bit_or_lem w 0 l ∙ rw (bit_none l) (or-false (bit w l))

-- a number that is left of a word is not the one taken out, and was in it
not_lost : {word j after : ℕ} → Without word j after → (l : ℕ) → bit after l ≡ true → l ≡ j → ⊥
not_lost {word} {j} {after} w l e z = true≢false (sym e ∙ subst⁻¹ (λ (x : ℕ). bit after x ≡ false) z w.out)

pub was_in : {word j after : ℕ} → Without word j after → (l : ℕ) → bit after l ≡ true → bit word l ≡ true
was_in w l e = sym (w.others l (not_lost w l e)) ∙ e

-- a word of the numbers at which a test holds, number by number
pub begins_none : (test : ℕ → Bool) → Begins test 0 0
begins_none test = record { first = λ j h. absurd (omega arith); none = λ j h. bit_none j }

pub begins_more : (test : ℕ → Bool) (j word after : ℕ) → Begins test j word → IncludingIf (test j) word j after → Begins test (j + 1) after
begins_more test j word after h r = record {
  first = below_more _ _
      (λ l hl. r.others l (λ e. omega arith) ∙ h.first l hl)
      (r.own ∙ ap (λ (b : Bool). test j || b) (h.none j (omega arith)) ∙ or-false (test j));
  none = λ l hl. r.others l (λ e. omega arith) ∙ h.none l (omega arith);
}
