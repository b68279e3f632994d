-- An array of 32 by 32 entries, of zeros and after a store.
use Rattle.std.proofs.Common.{◌≡◌, ℕ, ◌+◌, ◌*◌, ◌<◌, List, length, set, replicate, arith, get_or-set_other, get_or-set_same}
use lib.ListN.{length-replicate, get_or-replicate}
use Rattle.book.specs.Table.{entry}
use Rattle.walk.specs.Gaps.{Capped}

pub capped_zeros : Capped (replicate 1024 0)
capped_zeros = record {
  long = length-replicate {A = ℕ} 1024 0;
  low = λ k h. omega (arith, get_or-replicate {A = ℕ} 1024 k 0 0 h);
}

-- an entry after a store at it, and at another
module _ (xs : List ℕ) (i j v : ℕ) (hi : i < 32) (hj : j < 32) where
  pub entry_stored : length xs ≡ 1024 → entry (set xs (32 * i + j) v) i j ≡ v
  entry_stored long = get_or-set_same xs (32 * i + j) v 0 (omega (arith, long))

  pub entry_kept : (a b : ℕ) → a < 32 → b < 32 → (a ≡ i → b ≡ j → ⊥) → entry (set xs (32 * i + j) v) a b ≡ entry xs a b
  entry_kept a b ha hb other = get_or-set_other xs (32 * i + j) (32 * a + b) v 0 (λ e. other (omega arith) (omega arith))
