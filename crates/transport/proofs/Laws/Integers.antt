-- Laws of whole numbers that the kit does not have: four terms regrouped, a natural number times a sum, the order of two numbers to which
-- the same is added, and the size of a difference. `omega` does not read ℤ: a statement on signed numbers is carried to natural numbers
-- by `Added`, once for all.
use mathlib.Core.Path.{◌≡◌, refl, sym, ◌∙◌, ap, ap₂}
use mathlib.Core.Logic.{◌↔◌, by_cases}
use Prim.Native.Nat.{ℕ, zero, suc, ◌+◌, ◌-◌, ◌≤◌, ◌<◌}
use native.Mathlib.Decide.{dec_lt}
use native.Mathlib.Omega.{arith}
use lib.Dec.{T, le→leb, leb→le}
use lib.IntN.{ℤ, pos, negsuc, ◌+ℤ◌, ◌-ℤ◌, ◌*ℤ◌, +ℤ_assoc, +ℤ_comm, zero-*ℤ, suc_ℤ-*ℤ, pos-ne-negsuc}
use lib.Signed.{mag, le_z, ◌≤ℤ◌}
use borrow.Author.Tests.{lt-ltb, le-ltb}
use Rattle.transport.specs.Signed.{sumℤ}

-- the middle two of four exchanged
pub +ℤ_swap : (a b c d : ℤ) → (a +ℤ b) +ℤ (c +ℤ d) ≡ (a +ℤ c) +ℤ (b +ℤ d)
+ℤ_swap a b c d = simp (+ℤ_assoc, left_comm)
  where
    left_comm : (a b c : ℤ) → a +ℤ (b +ℤ c) ≡ b +ℤ (a +ℤ c)
    left_comm a b c = sym (+ℤ_assoc a b c) ∙ ap (λ s. s +ℤ c) (+ℤ_comm a b) ∙ +ℤ_assoc b a c

-- d times a sum
pub pos_*ℤ_add : (d : ℕ) (y z : ℤ) → pos d *ℤ (y +ℤ z) ≡ pos d *ℤ y +ℤ pos d *ℤ z
pos_*ℤ_add zero y z = simp zero-*ℤ
pos_*ℤ_add (suc d) y z =
    suc_ℤ-*ℤ (pos d) (y +ℤ z)
    ∙ ap (λ s. s +ℤ (y +ℤ z)) (pos_*ℤ_add d y z)
    ∙ +ℤ_swap (pos d *ℤ y) (pos d *ℤ z) y z
    ∙ sym (ap (λ s. s +ℤ pos (suc d) *ℤ z) (suc_ℤ-*ℤ (pos d) y) ∙ ap (λ s. (pos d *ℤ y +ℤ y) +ℤ s) (suc_ℤ-*ℤ (pos d) z))

-- equal terms
pub sumℤ_cong : (n : ℕ) (f g : ℕ → ℤ) → ((i : ℕ) → i < n → f i ≡ g i) → sumℤ n f ≡ sumℤ n g
unfolding sumℤ
sumℤ_cong zero f g h = refl
sumℤ_cong (suc n) f g h = ap₂ ◌+ℤ◌ (sumℤ_cong n f g (λ i l. h i (omega arith))) (h n (omega arith))

-- terms that are all 0
pub sumℤ_zero : (n : ℕ) (f : ℕ → ℤ) → ((i : ℕ) → i < n → f i ≡ pos 0) → sumℤ n f ≡ pos 0
unfolding sumℤ
sumℤ_zero zero f h = refl
sumℤ_zero (suc n) f h = rw (sumℤ_zero n f (λ i l. h i (omega arith)), h n (omega arith)) refl

-- m is z with k added, said without signs: where z is a, and where z is -(a + 1)
abbrev pub Added : ℤ → ℕ → ℕ → Type 0
Added (pos a) k m = a + k ≡ m
Added (negsuc a) k m = m + suc a ≡ k

pub added_says : (z : ℤ) (k m : ℕ) → z +ℤ pos k ≡ pos m → Added z k m
added_says (pos a) k m e = cc
added_says (negsuc a) k m e = by_cases (dec_lt k (suc a))
    (λ h. absurd (pos-ne-negsuc m (suc a - suc k) (sym (rw (lt-ltb k (suc a) h) at e))))
    (λ h. let f : k - suc a ≡ m = cc (rw (le-ltb k (suc a) (omega arith)) at e) in omega arith)

pub added_of : (z : ℤ) (k m : ℕ) → Added z k m → z +ℤ pos k ≡ pos m
added_of (pos a) k m e = ap pos e
added_of (negsuc a) k m e = rw (le-ltb k (suc a) (omega arith)) (ap pos (omega arith))

-- the order of two numbers is that of the numbers with k added
module _ (k m n : ℕ) where
  le_says : (y z : ℤ) → Added y k m → Added z k n → T (le_z y z) → m ≤ n
  le_says (pos a) (pos b) e f t = omega (arith, leb→le a b t)
  le_says (pos a) (negsuc b) e f t = absurd t
  le_says (negsuc a) (pos b) e f t = omega arith
  le_says (negsuc a) (negsuc b) e f t = omega (arith, leb→le b a t)

  le_of : (y z : ℤ) → Added y k m → Added z k n → m ≤ n → T (le_z y z)
  le_of (pos a) (pos b) e f h = le→leb a b (omega arith)
  le_of (pos a) (negsuc b) e f h = absurd (omega arith)
  le_of (negsuc a) (pos b) e f h = tt
  le_of (negsuc a) (negsuc b) e f h = le→leb b a (omega arith)

  pub le_added : (y z : ℤ) → y +ℤ pos k ≡ pos m → z +ℤ pos k ≡ pos n → (y ≤ℤ z) ↔ (m ≤ n)
  le_added y z e f = (
    λ h. le_says y z (added_says y k m e) (added_says z k n f) h.le,
    λ h. record { le = le_of y z (added_says y k m e) (added_says z k n f) h },
  )

-- a difference of two numbers that are less than n apart is above -n and below n
pub mag_difference : (a b n : ℕ) → a < b + n → b < a + n → mag (pos a -ℤ pos b) < n
mag_difference a zero n h g = omega arith
mag_difference a (suc b) n h g = by_cases (dec_lt a (suc b))
    (λ l. rw (lt-ltb a (suc b) l) (omega arith))
    (λ l. rw (le-ltb a (suc b) (omega arith)) (omega arith))
