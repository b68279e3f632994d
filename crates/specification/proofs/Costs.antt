-- Laws of costs by version: a cost that is not outside its version's range is the lifted cost less the base, and the test for 7 is one of
-- the lifted cost alone.
use mathlib.Core.Path.{◌≡◌, refl, sym, ◌∙◌, ap}
use mathlib.Core.Logic.{by_cases, ⊎_elim}
use mathlib.Core.Bool.{Bool, true, false, cond, ◌||◌, or-false, true≢false}
use Prim.Native.Nat.{ℕ, suc, ◌+◌, ◌-◌, ◌≤◌, ◌<◌}
use native.Mathlib.Decide.{dec_lt}
use native.Mathlib.Omega.{arith}
use borrow.Author.Tests.{lt-ltb, le-ltb, ltb-false}
use lib.Dec.{T, ltb, eqb, ltb→lt, lt→ltb}
use lib.IntN.{ℤ, pos, negsuc, neg_ℤ, ◌+ℤ◌, ◌-ℤ◌, +ℤ-neg_ℤ_cancel}
use lib.Signed.{lt_z, lt_z_yes, lt_z_no, clash_ℤ}
use mir.Syntax.{w32}
use mir.Val.{to_z}
use Rattle.transport.proofs.Laws.Tests.{T_ext, or_says}
use Rattle.transport.proofs.Laws.Integers.{added_of}
use Rattle.specification.specs.Costs.{cost_limit, cost_top, twos_complement, held_cost, cost_base, cost_outside, Allows, lifted_cost}

-- the three parts that two's complement has of the natural numbers; the last has no 32-bit number in it
module _ (held : ℕ) (X : ℤ → Type 0) (low : held < 2147483648 → X (pos held))
    (high : 2147483648 ≤ held → held < 4294967296 → X (negsuc (4294967296 - suc held)))
    (beyond : 4294967296 ≤ held → X (pos (held - 4294967296))) where
  twos_cases : X (twos_complement held)
  twos_cases = by_cases (dec_lt held 2147483648) (λ h. rw (lt-ltb held 2147483648 h) (low h)) (λ h. by_sign (omega arith))
    where
      by_sign : 2147483648 ≤ held → X (twos_complement held)
      by_sign h = rw (le-ltb held 2147483648 h) (by_cases (dec_lt held 4294967296)
          (λ g. rw (lt-ltb held 4294967296 g) (high h g))
          (λ g. rw (le-ltb held 4294967296 (omega arith)) (beyond (omega arith))))

-- the machine reads 32 bits so too
pub twos_complement_is : (held : ℕ) → held < 4294967296 → twos_complement held ≡ to_z w32 held
twos_complement_is held fits = twos_cases held (λ z. z ≡ to_z w32 held)
    (λ h. rw (lt-ltb held 2147483648 h))
    (λ h g. rw (le-ltb held 2147483648 h))
    (λ h. absurd (omega arith))

pub base_within : (version : ℕ) → cost_base version ≤ cost_limit
base_within version = elim (eqb version 2) as (λ b. cond b cost_limit 0 ≤ cost_limit) [ true ↦ omega arith | false ↦ omega arith ]

-- a number z is outside a range of this base
abbrev outside : ℕ → ℤ → Bool
outside base z = lt_z z (neg_ℤ (pos base)) || lt_z (pos cost_limit) z

or_says_no : (a b : Bool) → a || b ≡ false → (a ≡ false) × (b ≡ false)
or_says_no true b e = absurd (true≢false e)
or_says_no false b e = (refl, e)

-- a number z that is not outside is the lifted cost less the base, and the lifted cost is at most the limit above the base
pub record Lifted (base held : ℕ) (z : ℤ) : Type 0 where
  pub lifted : z +ℤ pos base ≡ pos (lifted_cost base held)
  pub within : lifted_cost base held ≤ cost_limit + base

unsigned_lifted : (held : ℕ) → outside 0 (pos held) ≡ false → Lifted 0 held (pos held)
unsigned_lifted held e =
    let low = ltb-false cost_limit held (or_says_no (ltb held 0) _ e).1 in
    record { lifted = ap pos (omega arith); within = omega arith }

signed_lifted : (held : ℕ) → outside cost_limit (twos_complement held) ≡ false → Lifted cost_limit held (twos_complement held)
signed_lifted held = twos_cases held (λ z. outside cost_limit z ≡ false → Lifted cost_limit held z) positive negative beyond
  where
    positive : held < 2147483648 → ltb cost_limit held ≡ false → Lifted cost_limit held (pos held)
    positive h e = let low = ltb-false cost_limit held e in record { lifted = ap pos (omega arith); within = omega arith }

    negative : 2147483648 ≤ held → held < 4294967296 → ltb 999999 (4294967296 - suc held) || false ≡ false
        → Lifted cost_limit held (negsuc (4294967296 - suc held))
    negative h g e =
        let low = ltb-false 999999 (4294967296 - suc held) (or_says_no _ false e).0 in
        record { lifted = added_of (negsuc (4294967296 - suc held)) cost_limit _ (omega arith); within = omega arith }

    beyond : 4294967296 ≤ held → ltb cost_limit (held - 4294967296) ≡ false → Lifted cost_limit held (pos (held - 4294967296))
    beyond h e =
        let low = ltb-false cost_limit (held - 4294967296) e in
        record { lifted = ap pos (omega arith); within = omega arith }

pub cost_lifted : (version held : ℕ) → cost_outside version held ≡ false → Lifted (cost_base version) held (held_cost version held)
cost_lifted version held = by_version (eqb version 2)
  where
    by_version : (b : Bool) → outside (cond b cost_limit 0) (cond b (twos_complement held) (pos held)) ≡ false
        → Lifted (cond b cost_limit 0) held (cond b (twos_complement held) (pos held))
    by_version true = signed_lifted held
    by_version false = unsigned_lifted held

-- the range, as an order
pub cost_range : (version held : ℕ) → cost_outside version held ≡ false → Allows version (held_cost version held)
cost_range version held e =
    let z : ℤ = held_cost version held in
    let (low, high) = or_says_no (lt_z z (neg_ℤ (pos (cost_base version)))) (lt_z (pos cost_limit) z) e in
    (lt_z_no (rw low tt), lt_z_no (rw high tt))

pub range_not_outside : (version held : ℕ) → Allows version (held_cost version held) → cost_outside version held ≡ true → ⊥
range_not_outside version held (low, high) e =
    let z : ℤ = held_cost version held in
    ⊎_elim (λ (t : T (lt_z z (neg_ℤ (pos (cost_base version))))). clash_ℤ (lt_z_yes t) low) (λ t. clash_ℤ (lt_z_yes t) high)
    (or_says (lt_z z (neg_ℤ (pos (cost_base version)))) (lt_z (pos cost_limit) z) (rw e tt))

-- so a cost is the lifted cost less the base
pub held_is : (version held : ℕ) → cost_outside version held ≡ false
    → held_cost version held ≡ pos (lifted_cost (cost_base version) held) -ℤ pos (cost_base version)
held_is version held e =
    sym (+ℤ-neg_ℤ_cancel (held_cost version held) (pos (cost_base version)))
    ∙ ap (λ z. z -ℤ pos (cost_base version)) (cost_lifted version held e).lifted

-- and in either version the cost with the limit added is the lifted one, with what the base lacks of the limit
pub raised_is : (version held : ℕ) → cost_outside version held ≡ false
    → lifted_cost cost_limit held ≡ lifted_cost (cost_base version) held + (cost_limit - cost_base version)
raised_is version held e = by_version (eqb version 2) (cost_lifted version held e).within
  where
    by_version : (b : Bool) → lifted_cost (cond b cost_limit 0) held ≤ cost_limit + cond b cost_limit 0
        → lifted_cost cost_limit held ≡ lifted_cost (cond b cost_limit 0) held + (cost_limit - cond b cost_limit 0)
    by_version true low = omega arith
    by_version false low = omega arith

pub raised_within : (version held : ℕ) → cost_outside version held ≡ false → lifted_cost cost_limit held ≤ cost_top
raised_within version held e =
    omega (arith, raised_is version held e, (cost_lifted version held e).within, base_within version)

-- of 32-bit numbers the test is one of the lifted cost
ltb_same : (a b c d : ℕ) → (a < b → c < d) → (c < d → a < b) → ltb a b ≡ ltb c d
ltb_same a b c d f g = T_ext (ltb a b) (ltb c d) (λ t. lt→ltb c d (f (ltb→lt a b t))) (λ t. lt→ltb a b (g (ltb→lt c d t)))

abbrev Tested : ℕ → ℕ → ℤ → Type 0
Tested base held z = outside base z ≡ ltb (cost_limit + base) (lifted_cost base held)

unsigned_tested : (held : ℕ) → held < 4294967296 → Tested 0 held (pos held)
unsigned_tested held fits =
    rw (le-ltb held 0 (omega arith))
    (ltb_same cost_limit held cost_limit (lifted_cost 0 held) (λ h. omega arith) (λ h. omega arith))

signed_tested : (held : ℕ) → held < 4294967296 → Tested cost_limit held (twos_complement held)
signed_tested held fits = twos_cases held (Tested cost_limit held)
    (λ h. ltb_same cost_limit held 2000000 (lifted_cost cost_limit held) (λ g. omega arith) (λ g. omega arith))
    (λ h g. or-false (ltb 999999 (4294967296 - suc held)) ∙ negative h)
    (λ h. absurd (omega arith))
  where
    negative : 2147483648 ≤ held → ltb 999999 (4294967296 - suc held) ≡ ltb 2000000 (lifted_cost cost_limit held)
    negative h =
        ltb_same 999999 (4294967296 - suc held) 2000000 (lifted_cost cost_limit held) (λ g. omega arith) (λ g. omega arith)

pub cost_tested : (version held : ℕ) → held < 4294967296
    → cost_outside version held ≡ ltb (cost_limit + cost_base version) (lifted_cost (cost_base version) held)
cost_tested version held fits = by_version (eqb version 2)
  where
    by_version : (b : Bool) → Tested (cond b cost_limit 0) held (cond b (twos_complement held) (pos held))
    by_version true = signed_tested held fits
    by_version false = unsigned_tested held fits
