-- Laws of slacks: a pair remains where it has slack, and a table stays capped.
use Rattle.std.proofs.Common.{◌≡◌, ℕ, suc, ◌<◌, ◌≤◌, T, eqb, List, length, get_or, set, replicate, mul-le-mul, arith, T_not, get_or-set_other, get_or-set_same, lt-ltb, eq-eqb}
use mathlib.Core.Path.{subst⁻¹}
use mathlib.Core.Logic.{by_cases}
use native.Mathlib.Decide.{ℕ_discrete, dec_lt}
use lib.ListN.{get_or-replicate, length-replicate, get_or-eq_default}
use Rattle.transport.specs.Finder.{size}
use Rattle.transport.proofs.Laws.Tests.{positive}
use Rattle.transport.proofs.Laws.Sets.{count_le}
use Rattle.specification.specs.Costs.{cost_top}
use Rattle.book.specs.Table.{entry}
use Rattle.slacks.specs.Slacks.{remains, by_slacks, Capped, Slacks}

-- a pair that remains has slack
pub remains_says : (slacks : List ℕ) (i j : ℕ) → T (remains slacks i j) → 0 < entry slacks i j
remains_says slacks i j t = positive (entry slacks i j) (λ e. T_not (eqb (entry slacks i j) 0) t (rw (eq-eqb (entry slacks i j) 0 e) tt))

-- a list of zeros; as a table it is capped, and stays so
pub zeros_at : (size x : ℕ) → get_or (replicate {A = ℕ} size 0) x 0 ≡ 0
zeros_at size x = by_cases (dec_lt x size)
    (get_or-replicate {A = ℕ} size x 0 0)
    (λ h. get_or-eq_default {A = ℕ} (replicate size 0) 0 {n = x} (omega (arith, length-replicate {A = ℕ} size 0)))

pub capped_zeros : (size : ℕ) → Capped (replicate size 0)
capped_zeros size x = omega (arith, zeros_at size x)

pub capped_set : (t : List ℕ) (x v : ℕ) → Capped t → v ≤ suc cost_top → x < length t → Capped (set t x v)
capped_set t x v h le lt y = by_cases (ℕ_discrete y x)
    (λ e. subst⁻¹ (λ (z : ℕ). get_or (set t x v) z 0 ≤ suc cost_top) e (omega (arith, get_or-set_same t x v 0 lt)))
    (λ d. omega (arith, h y, get_or-set_other t x y v 0 d))

-- the eligible pairs are those that remain
pub admits_is : (slacks : List ℕ) (n m i j : ℕ) → i < n → j < m → (by_slacks slacks n m).admits i j ≡ remains slacks i j
admits_is slacks n m i j hi hj = rw (lt-ltb i n hi, lt-ltb j m hj)

-- a table has room for 1,024 pairs
pub size_few : {slacks : List ℕ} {n m : ℕ} → Slacks slacks n m → size (by_slacks slacks n m) ≤ 1024
size_few {slacks} {n} {m} r =
    omega (arith, count_le (by_slacks slacks n m) (by_slacks slacks n m).admits, mul-le-mul r.lots_few r.calls_few)
