-- The order file of a list of pairs, read back: it has the right opening and length, its count is the length of the list, and its pairs
-- are the list.
use mathlib.Core.Path.{◌≡◌, refl, ◌∙◌, ap}
use mathlib.Core.List.{List, [], ◌∷◌, ◌++◌}
use Prim.Native.Nat.{ℕ, ◌+◌, ◌*◌}
use native.Mathlib.Omega.{arith}
use lib.ListN.{length, take}
use lib.Seq.{take_at}
use Rattle.transport.specs.Greedy.{Pair}
use Rattle.specification.specs.Bytes.{u16_at, order_mark}
use Rattle.specification.specs.OrderFile.{order_count, pairs, order_pairs, pair_bytes, order_file}
use Rattle.specification.specs.Demands.{OrderShaped}
use Rattle.specification.proofs.Replies.{gives_if_never_refused}
use Rattle.specification.proofs.Rows.{Opened, opening_says, opened_not_refused}

pub pairs_back : (S : List Pair) → pairs (length S) (pair_bytes S) ≡ S
unfolding pairs pair_bytes
pairs_back [] = refl
pairs_back (p ∷ S) = ap (λ (R : List Pair). p ∷ R) (pairs_back S)

length_pair_bytes : (S : List Pair) → length (pair_bytes S) ≡ 2 * length S
unfolding pair_bytes
length_pair_bytes [] = refl
length_pair_bytes (p ∷ S) = omega (arith, length_pair_bytes S)

module _ (S : List Pair) where
  pub count_back : order_count (order_file S) ≡ length S
  unfolding u16_at
  count_back = omega arith

  pub order_back : order_pairs (order_file S) ≡ S
  order_back = ap (λ (n : ℕ). pairs n (pair_bytes S)) count_back ∙ pairs_back S

  pub order_file_length : length (order_file S) ≡ 7 + 2 * length S
  order_file_length = omega (arith, length_pair_bytes S)

  opened : Opened order_mark 1 (order_file S)
  unfolding u16_at
  opened = record { seven = omega arith; mark_stands = tt; version_stands = tt }

  pub order_file_shaped : OrderShaped (order_file S)
  order_file_shaped = record {
    opening = (gives_if_never_refused (opening_says order_mark 1 (order_file S)) (λ k vs. opened_not_refused opened)).2;
    whole = omega (arith, order_file_length, count_back);
  }

  -- written over the front of a buffer it is what stands there
  pub order_file_taken : (n : ℕ) (rest : List ℕ) → length S ≡ n → take (7 + 2 * n) (order_file S ++ rest) ≡ order_file S
  order_file_taken n rest e = take_at (order_file S) rest (7 + 2 * n) (omega (arith, order_file_length))
