-- What holds of each number of a list.
use mathlib.Core.List.{List, [], ◌∷◌, ◌++◌}
use Prim.Native.Nat.{ℕ, zero, suc, ◌<◌}
use native.Mathlib.Omega.{arith}
use lib.ListN.{length, get_or, replicate}

pub data Each (Q : ℕ → Type 0) : List ℕ → Type 0 where
  none_left : Each Q []
  one_more : (x : ℕ) {s : List ℕ} → Q x → Each Q s → Each Q (x ∷ s)

module _ {Q : ℕ → Type 0} where
  pub each_append : {s t : List ℕ} → Each Q s → Each Q t → Each Q (s ++ t)
  each_append none_left later = later
  each_append (one_more x q rest) later = one_more x q (each_append rest later)

  pub each_replicate : (n x : ℕ) → Q x → Each Q (replicate n x)
  each_replicate zero x q = none_left
  each_replicate (suc n) x q = one_more x q (each_replicate n x q)

  pub each_at : {s : List ℕ} → Each Q s → (k : ℕ) → k < length s → Q (get_or s k 0)
  each_at none_left k h = absurd (omega arith)
  each_at (one_more x q rest) zero h = q
  each_at (one_more x q rest) (suc k) h = each_at rest k (omega arith)
