-- The lowest and the highest number in a word: its trailing and its leading zeros, and what they say of the others.
use mathlib.Core.Path.{◌≡◌, sym, ap, ◌∙◌}
use mathlib.Core.Logic.{by_cases}
use mathlib.Core.Bool.{true, false, true≢false, Bool-discrete}
use Prim.Native.Nat.{ℕ, zero, suc, ◌+◌, ◌*◌, ◌-◌, ◌/◌, ◌^◌, ◌≤◌, ◌<◌}
use native.Mathlib.Nat.{lt_of_lt_of_le, pow-suc}
use native.Mathlib.Decide.{ℕ_discrete, dec_lt}
use native.Mathlib.Omega.{arith}
use lib.Arith.{digits_div}
use lib.Count.{count_leading_zeros, leading_top, count_trailing_zeros}
use lib.Pow.{pow_mono}
use Rattle.transport.proofs.Laws.Tests.{positive, false_of}
use Rattle.specification.specs.Book.{bit}
use Rattle.std.proofs.Common.{w32}
use Rattle.std.proofs.lemmas.Nat.Bits.{bit_at-trailing_zeros}
use Rattle.rows.proofs.Bits.{bit_past}
use Rattle.words.specs.Words.{LowestIn, HighestIn}
use Rattle.words.proofs.Sets.{bit_none}

pub lowest_is : (n : ℕ) → 0 < n → n < 2 ^ 32 → LowestIn n (count_trailing_zeros 32 n) × (count_trailing_zeros 32 n < 32)
lowest_is n p h = let (few, one, none) = bit_at-trailing_zeros w32 n p h in
    (record { is_in = rw one; none_below = λ l lt. rw (none l lt) }, few)

pub leading_le_31 : (n : ℕ) → 0 < n → n < 2 ^ 32 → count_leading_zeros 32 n ≤ 31
leading_le_31 n p h = let (j, e, low, high) = leading_top 32 n p h in omega arith

pub highest_is : (n : ℕ) → 0 < n → n < 2 ^ 32 → HighestIn n (31 - count_leading_zeros 32 n) × (31 - count_leading_zeros 32 n < 32)
highest_is n p h =
    let (j, e, low, high) = leading_top 32 n p h in
    let r : 31 - count_leading_zeros 32 n ≡ j = omega arith in
    let one : n / 2 ^ j ≡ 1 = quotient n j low high in (
      record {
        is_in = rw (r, one);
        none_above = λ l lt. bit_past n l (lt_of_lt_of_le high (pow_mono (omega arith)));
      },
      omega arith,
    )
  where
    quotient : (n j : ℕ) → 2 ^ j ≤ n → n < 2 ^ suc j → n / 2 ^ j ≡ 1
    quotient n j low high =
        let d = n - 2 ^ j in
        let s : n ≡ 1 * 2 ^ j + d = omega arith in
        ap (λ (x : ℕ). x / 2 ^ j) s ∙ digits_div 1 (omega (arith, pow-suc 2 j))

-- a word with a number in it is not 0
pub word_positive : (word x : ℕ) → bit word x ≡ true → 0 < word
word_positive word x e = positive word (λ z. true≢false (sym e ∙ ap (λ (w : ℕ). bit w x) z ∙ bit_none x))

-- a number in a word is not below the lowest, nor above the highest
pub lowest_le : (word a x : ℕ) → LowestIn word a → bit word x ≡ true → a ≤ x
lowest_le word a x low e = by_cases (dec_lt x a) (λ l. absurd (true≢false (sym e ∙ low.none_below x l))) (λ o. omega arith)

pub highest_ge : (word a x : ℕ) → HighestIn word a → bit word x ≡ true → x ≤ a
highest_ge word a x high e = by_cases (dec_lt a x) (λ l. absurd (true≢false (sym e ∙ high.none_above x l))) (λ o. omega arith)

-- a word with a number in it has a lowest one, and a highest one where it has none from a bound on
pub lowest_from : (word a d : ℕ) → ((l : ℕ) → l < a → bit word l ≡ false) → bit word (a + d) ≡ true → (r : ℕ) × LowestIn word r
lowest_from word a zero h e = let z : a + 0 ≡ a = omega arith in (a, record { is_in = rw z at e; none_below = h })
lowest_from word a (suc d) h e = by_cases (Bool-discrete (bit word a) true)
    (λ b. (a, record { is_in = b; none_below = h }))
    (λ b. let z : a + suc d ≡ suc a + d = omega arith in
    lowest_from word (suc a) d
    (λ l lt. by_cases (ℕ_discrete l a) (λ y. ap (bit word) y ∙ false_of (bit word a) b) (λ y. h l (omega arith))) (rw z at e))

pub highest_from : (word x bound : ℕ) → ((l : ℕ) → bound ≤ l → bit word l ≡ false) → bit word x ≡ true → (r : ℕ) × HighestIn word r
highest_from word x zero h e = absurd (true≢false (sym e ∙ h x (omega arith)))
highest_from word x (suc bound) h e = by_cases (Bool-discrete (bit word bound) true)
    (λ b. (bound, record { is_in = b; none_above = λ l lt. h l (omega arith) }))
    (λ b. highest_from word x bound
    (λ l le. by_cases (ℕ_discrete l bound) (λ y. ap (bit word) y ∙ false_of (bit word bound) b) (λ y. h l (omega arith))) e)
