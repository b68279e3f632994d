-- Laws of a word of 32 bits: no bit from 32 on is set, the power of two that the code makes by a shift is that power, and the count of
-- set bits below a bit grows by one past each set bit, so that c of them below bit c are all.
use mathlib.Core.Path.{◌≡◌, refl, sym, ap, ◌∙◌}
use Prim.Native.Nat.{ℕ, zero, suc, ◌+◌, ◌*◌, ◌/◌, ◌%◌, ◌-◌, ◌^◌, ◌≤◌, ◌<◌}
use native.Mathlib.Nat.{lt_of_lt_of_le, lt_of_le_of_lt, mod-le, mod-lt, mod-eq_of_lt, div-eq_of_lt, mod-one, one-mul, add-zero, div-add-mod'}
use native.Mathlib.Omega.{arith}
use mathlib.Core.Bool.{Bool, true, false, true≢false}
use mathlib.Core.Logic.{⊎_elim}
use Rattle.files.proofs.Parts.{le_or_lt}
use borrow.Author.Tests.{eqb-true, eqb-false}
use lib.Dec.{lit<}
use lib.Count.{ones, ones-le, ones_cat}
use lib.Pow.{pow_pos, pow_mono, shl_exact}
use Rattle.specification.specs.Book.{bit}
use Rattle.specification.proofs.Bits.{ones_next}
use Rattle.rows.specs.Words.{ones_below}

pub below_power : {word : ℕ} (j : ℕ) → word < 2 ^ 32 → 32 ≤ j → word < 2 ^ j
below_power j h l = lt_of_lt_of_le h (pow_mono l)

pub bit_past : (word j : ℕ) → word < 2 ^ j → bit word j ≡ false
bit_past word j h = rw (div-eq_of_lt h)

pub one_shifted : (j : ℕ) → j < 32 → (1 * 2 ^ j) % 2 ^ 32 ≡ 2 ^ j
one_shifted j h = shl_exact 1 j 32 (lit< tt) (omega arith) ∙ one-mul (2 ^ j)

pub ones_below_le : (word j : ℕ) → word < 2 ^ 32 → ones_below word j ≤ 32
ones_below_le word j h = ones-le 32 (word % 2 ^ j) (lt_of_le_of_lt (mod-le word (2 ^ j)) h)

-- no more bits are set below bit j than in the whole word
pub ones_below_all : (word j : ℕ) → ones_below word j ≤ ones word
ones_below_all word j = omega (
  arith,
  ap ones (div-add-mod' word (2 ^ j)),
  ones_cat j (word / 2 ^ j) (word % 2 ^ j) (mod-lt word (pow_pos j)),
)

pub ones_below_none : (word : ℕ) → ones_below word 0 ≡ 0
unfolding ones
ones_below_none word = ap ones (mod-one word)

pub ones_below_set : (word j : ℕ) → bit word j ≡ true → ones_below word (j + 1) ≡ ones_below word j + 1
ones_below_set word j e = omega (arith, ones_next word j, eqb-true (word / 2 ^ j % 2) 1 e)

pub ones_below_unset : (word j : ℕ) → bit word j ≡ false → ones_below word (j + 1) ≡ ones_below word j
ones_below_unset word j e =
    let n = eqb-false (word / 2 ^ j % 2) 1 e in
    let l = mod-lt (word / 2 ^ j) {m = 2} (lit< tt) in
    omega (arith, ones_next word j, n, l)

-- clear bits add nothing
pub ones_below_clear : (word j d : ℕ) → ((k : ℕ) → j ≤ k → k < j + d → bit word k ≡ false) → ones_below word (j + d) ≡ ones_below word j
ones_below_clear word j zero clear = rw (add-zero j)
ones_below_clear word j (suc d) clear =
    let e : j + suc d ≡ j + d + 1 = omega arith in
    rw e (ones_below_unset word (j + d) (clear (j + d) (omega arith) (omega arith))
    ∙ ones_below_clear word j d (λ k l l'. clear k l (omega arith)))

-- the count grows by at most one a bit, so where all of c bits are set, each of them is
ones_below_slow : (word l d : ℕ) → ones_below word (l + d) ≤ ones_below word l + d
ones_below_slow word l zero = let e : l + 0 ≡ l = omega arith in rw e (omega arith)
ones_below_slow word l (suc d) =
    let e : l + suc d ≡ l + d + 1 = omega arith in
    rw e (omega (arith, ones_next word (l + d), mod-lt (word / 2 ^ (l + d)) {m = 2} (lit< tt), ones_below_slow word l d))

module _ (word c : ℕ) (all : ones_below word c ≡ c) where
  pub ones_below_full : (l : ℕ) → l ≤ c → ones_below word l ≡ l
  ones_below_full l h =
      let up : l + (c - l) ≡ c = omega arith in
      let whole : 0 + l ≡ l = omega arith in
      omega (arith, rw (up, all) at (ones_below_slow word l (c - l)), rw whole at (ones_below_slow word 0 l), ones_below_none word)

  pub bit_of_full : (l : ℕ) → l < c → bit word l ≡ true
  bit_of_full l h = go (bit word l) refl
    where
      go : (b : Bool) → bit word l ≡ b → bit word l ≡ true
      go true e = e
      go false e = absurd (omega (arith, ones_below_unset word l e, ones_below_full l (omega arith), ones_below_full (l + 1) (omega arith)))

-- a set bit of a word below 2 ^ c is below c
pub bit_below : (word j c : ℕ) → bit word j ≡ true → word < 2 ^ c → j < c
bit_below word j c b h =
    ⊎_elim (λ (g : c ≤ j). absurd (true≢false (sym b ∙ bit_past word j (lt_of_lt_of_le h (pow_mono g))))) (λ (g : j < c). g) (le_or_lt c j)

-- ---- a word whose set bits are the lowest: below 2 ^ c, with c bits set
module _ (word : ℕ) (first : word < 2 ^ ones word) where
  -- the lowest bits are set, and no other
  ones_first : ones_below word (ones word) ≡ ones word
  ones_first = ap ones (mod-eq_of_lt first)

  pub bit_first : (j : ℕ) → j < ones word → bit word j ≡ true
  bit_first j h = bit_of_full word (ones word) ones_first j h

  pub bit_after : (j : ℕ) → ones word ≤ j → bit word j ≡ false
  bit_after j h = bit_past word j (lt_of_lt_of_le first (pow_mono h))
