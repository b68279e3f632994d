-- Bits of a word: a set bit j makes the word 2 ^ j or more, and a word of 2 ^ m or more has a bit m or higher set, its highest.
-- So the book's test for 5, word against 2 ^ m, is the table's "eligibility bit m or higher set". The set bits below bit j are counted one by
-- one; a set bit counts among the set bits, and not among those below it.
use mathlib.Core.Path.{◌≡◌, refl, sym, ◌∙◌, ap}
use mathlib.Core.Bool.{cond}
use Prim.Native.Nat.{ℕ, zero, suc, ◌+◌, ◌/◌, ◌%◌, ◌^◌, ◌≤◌, ◌<◌}
use native.Mathlib.Nat.{add_comm, mod-one, mod-lt, div-add-mod', div-eq_of_lt, div-eq_of_lt-le, two-pow-succ}
use native.Mathlib.Numerals.{add-one}
use native.Mathlib.Omega.{arith}
use lib.Count.{ones, ones_step, ones_cat, leading_top}
use lib.Dec.{T, eqb, lit<, ltb, ltb→lt, nltb→le, eqb→eq, not_T}
use lib.Pow.{pow_pos, pow_mono, mod-pow-add}
use Rattle.transport.specs.Problem.{sum}
use Rattle.specification.specs.Book.{bit}

pub bit_le : (word j : ℕ) → T (bit word j) → 2 ^ j ≤ word
bit_le word j t = nltb→le word (2 ^ j) (not_T (ltb word (2 ^ j)) (λ below.
    let none : word / 2 ^ j ≡ 0 = div-eq_of_lt (ltb→lt word (2 ^ j) below) in
    rw none at t))

below_pow : (n : ℕ) → n < 2 ^ n
below_pow zero = pow_pos 0
below_pow (suc n) = omega (arith, two-pow-succ n, below_pow n, pow_pos n)

pub bit_from : (m word : ℕ) → 2 ^ m ≤ word → (j : ℕ) × (m ≤ j) × T (bit word j)
bit_from m word h =
    let (j, _, low, high) = leading_top word word (omega (arith, pow_pos m)) (below_pow word) in
    let highest : word / 2 ^ j ≡ 1 = div-eq_of_lt-le (2 ^ j) (omega arith) (omega (arith, two-pow-succ j)) in
    let not_lower : (j < m → ⊥) = λ lower. omega (arith, pow_mono lower) in
    (j, omega arith, rw highest tt)

-- one more bit: it counts itself
ones_bit : (b : ℕ) → b < 2 → ones b ≡ b
unfolding ones
ones_bit zero h = refl
ones_bit (suc zero) h = refl
ones_bit (suc (suc b)) h = absurd (omega arith)

pub ones_next : (word j : ℕ) → ones (word % 2 ^ (j + 1)) ≡ ones (word % 2 ^ j) + word / 2 ^ j % 2
ones_next word j =
    let b = word / 2 ^ j % 2 in
    ap (λ (k : ℕ). ones (word % 2 ^ k)) (add_comm j 1) ∙ ap ones (mod-pow-add word 1 j)
    ∙ ones_cat j b (word % 2 ^ j) (mod-lt word (pow_pos j))
    ∙ ap (λ (n : ℕ). n + ones (word % 2 ^ j)) (ones_bit b (mod-lt (word / 2 ^ j) (lit< tt))) ∙ add_comm b (ones (word % 2 ^ j))

-- the set bits below bit j, one by one
pub bits_counted : (word j : ℕ) → sum j (λ l. cond (bit word l) 1 0) ≡ ones (word % 2 ^ j)
unfolding sum ones
bits_counted word zero = sym (ap ones (mod-one word))
bits_counted word (suc j) =
    rw (bits_counted word j, its_value (word / 2 ^ j % 2) (mod-lt (word / 2 ^ j) (lit< tt)), ← add-one j) (sym (ones_next word j))
  where
    its_value : (b : ℕ) → b < 2 → cond (eqb b 1) 1 0 ≡ b
    its_value zero h = refl
    its_value (suc zero) h = refl
    its_value (suc (suc b)) h = absurd (omega arith)

pub ones_below_lt : (word j : ℕ) → T (bit word j) → ones (word % 2 ^ j) < ones word
ones_below_lt word j t = omega (
  arith,
  ap ones (div-add-mod' word (2 ^ j)),
  ones_cat j (word / 2 ^ j) (word % 2 ^ j) (mod-lt word (pow_pos j)),
  ones_step (word / 2 ^ j),
  eqb→eq (word / 2 ^ j % 2) 1 t,
)
