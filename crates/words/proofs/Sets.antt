-- Laws of words as sets: a number is in a word where its bit is set. What joins, cuts, a single number and a number taken out do to the bits,
-- and that a word cut by another is itself exactly where it lies within it.
use Rattle.std.proofs.Common.{◌≡◌, ℕ, zero, suc, ◌-◌, ◌/◌, ◌%◌, ◌^◌, ◌≤◌, ◌<◌, min, max, true, false, not, ◌&&◌, ◌||◌, T, eqb, refl, sym, ap, ◌∙◌, subst, arith, eq-eqb, ne_eqb, w32}
use Rattle.std.proofs.lemmas.Nat.Bits.{bit_at-lt, bit_at-zero, bit_at_lowest, bit_at-suc, bit_at_or, bit_at_and, bit_at_not, bit_at_ones, bit_at-pow_same, bit_at-pow_other}
use mathlib.Core.Logic.{by_cases}
use native.Mathlib.Nat.{mod-lt, pow-suc}
use native.Mathlib.Decide.{ℕ_discrete, dec_lt}
use lib.Dec.{eqb→eq, lit<}
use lib.Bits.{bit_and, bit_or, and_step, and_zero_l}
use Rattle.transport.specs.Finder.{every}
use Rattle.transport.proofs.Laws.Tests.{T_ext, and_says, implies_says, implies_of}
use Rattle.transport.proofs.Laws.Searches.{every_says, every_of}
use Rattle.specification.specs.Book.{bit}

-- what holds of the four pairs of digits holds of any
by_digits : (P : ℕ → ℕ → Type 0) → P 0 0 → P 0 1 → P 1 0 → P 1 1 → (d e : ℕ) → d < 2 → e < 2 → P d e
by_digits P a b c d zero zero hd he = a
by_digits P a b c d zero (suc zero) hd he = b
by_digits P a b c d (suc zero) zero hd he = c
by_digits P a b c d (suc zero) (suc zero) hd he = d
by_digits P a b c d zero (suc (suc e)) hd he = absurd (omega arith)
by_digits P a b c d (suc zero) (suc (suc e)) hd he = absurd (omega arith)
by_digits P a b c d (suc (suc n)) e hd he = absurd (omega arith)

pub bit_none : (l : ℕ) → bit 0 l ≡ false
bit_none l = ap (λ (d : ℕ). eqb d 1) (bit_at-zero l)

pub bit_or_lem : (a b l : ℕ) → bit (bit_or a b) l ≡ (bit a l || bit b l)
bit_or_lem a b l = ap (λ (d : ℕ). eqb d 1) (bit_at_or a b l)
    ∙ by_digits (λ (d e : ℕ). eqb (max d e) 1 ≡ (eqb d 1 || eqb e 1)) refl refl refl refl _ _ (bit_at-lt a l) (bit_at-lt b l)

pub bit_and_lem : (a b l : ℕ) → bit (bit_and a b) l ≡ (bit a l && bit b l)
bit_and_lem a b l = ap (λ (d : ℕ). eqb d 1) (bit_at_and a b l)
    ∙ by_digits (λ (d e : ℕ). eqb (min d e) 1 ≡ (eqb d 1 && eqb e 1)) refl refl refl refl _ _ (bit_at-lt a l) (bit_at-lt b l)

-- of the numbers below 32, those that a word has not
pub bit_not_lem : (word l : ℕ) → word < 2 ^ 32 → l < 32 → bit (4294967295 - word) l ≡ not (bit word l)
bit_not_lem word l h hl = ap (λ (d : ℕ). eqb d 1) (bit_at_not w32 word l h hl)
    ∙ by_digits (λ (d e : ℕ). eqb (1 - d) 1 ≡ not (eqb d 1)) refl refl refl refl _ _ (bit_at-lt word l) (bit_at-lt word l)

-- the word of one number, and the word of all below k
pub bit_single : (j l : ℕ) → bit (2 ^ j) l ≡ eqb l j
bit_single j l = by_cases (ℕ_discrete l j)
    (λ (e : l ≡ j). rw (e, bit_at-pow_same j, eq-eqb j j refl))
    (λ other. rw (bit_at-pow_other j l other, ne_eqb l j other))

pub bit_all : (k l : ℕ) → l < k → bit (2 ^ k - 1) l ≡ true
bit_all k l h = ap (λ (d : ℕ). eqb d 1) (bit_at_ones k l h)

-- the first digit, and the later ones as those of the half
bit_first : (w : ℕ) → bit w 0 ≡ eqb (w % 2) 1
bit_first w = ap (λ (d : ℕ). eqb d 1) (bit_at_lowest w)

bit_next : (w l : ℕ) → bit w (suc l) ≡ bit (w / 2) l
bit_next w l = ap (λ (d : ℕ). eqb d 1) (bit_at-suc w l)

-- a word within another is the same after a cut by it, and only such a word is
pub cut_same : (k a b : ℕ) → a < 2 ^ k → ((l : ℕ) → T (bit a l) → T (bit b l)) → bit_and a b ≡ a
cut_same zero a b h within = let none : a ≡ 0 = omega arith in rw none (and_zero_l b)
cut_same (suc k) a b h within =
    let halves = cut_same k (a / 2) (b / 2) (omega (arith, pow-suc 2 k)) (λ l t. rw (bit_next b l) at (within (suc l) (rw (bit_next a l) t))) in
    omega (
      arith,
      and_step a b,
      halves,
      low (a % 2) (b % 2) (mod-lt a (lit< tt)) (mod-lt b (lit< tt))
          (λ t. rw (bit_first b) at (within 0 (rw (bit_first a) t))),
    )
  where
    low : (d e : ℕ) → d < 2 → e < 2 → (T (eqb d 1) → T (eqb e 1)) → min d e ≡ d
    low zero e h g f = omega arith
    low (suc d) e h g f = omega (arith, eqb→eq e 1 (f (rw (eq-eqb (suc d) 1 (omega arith)) tt)))

pub within_exactly : (m k a b : ℕ) → a < 2 ^ k → ((l : ℕ) → m ≤ l → bit a l ≡ false)
    → eqb (bit_and a b) a ≡ every m (λ l. not (bit a l) || bit b l)
within_exactly m k a b h out = T_ext (eqb (bit_and a b) a) (every m (λ l. not (bit a l) || bit b l))
    (λ t. every_of m _ (λ l hl. implies_of (bit a l) (bit b l) (λ s.
    (and_says (bit a l) (bit b l) (subst T (ap (λ (x : ℕ). bit x l) (sym (eqb→eq (bit_and a b) a t)) ∙ bit_and_lem a b l) s)).1)))
    (λ t. rw (eq-eqb (bit_and a b) a (cut_same k a b h (λ l s. by_cases (dec_lt l m)
    (λ hl. implies_says (bit a l) (bit b l) (every_says m (λ o. not (bit a o) || bit b o) t l hl) s)
    (λ far. absurd (subst T (out l (omega arith)) s))))) tt)
