-- What a lot's reserve is, by whether the file carries reserves.
use mathlib.Core.Path.{◌≡◌, refl}
use mathlib.Core.Bool.{true, false}
use mathlib.Core.List.{List}
use Prim.Native.Nat.{ℕ, ◌+◌, ◌≤◌}
use native.Mathlib.Omega.{arith}
use Rattle.specification.specs.Bytes.{byte_at}
use Rattle.specification.specs.Amounts.{amount_at, carries_reserves, reserve_at}

module _ (s : List ℕ) where
  -- it does not
  module _ (none : carries_reserves s ≡ false) (i : ℕ) where
    no_reserve : reserve_at s i ≡ 0
    no_reserve = rw none refl

    pub within_without : reserve_at s i ≤ amount_at s i
    within_without = omega (arith, no_reserve)

  -- it does, and `first` is the number of the first
  pub reserve_is : carries_reserves s ≡ true → (first i : ℕ) → first ≡ byte_at s 5 + byte_at s 6 → reserve_at s i ≡ amount_at s (first + i)
  reserve_is carried first i is = rw (carried, is) refl
