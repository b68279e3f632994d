-- The pairs of an order file from a place on.
use Rattle.std.proofs.Common.{◌≡◌, ℕ, zero, suc, ◌+◌, ◌-◌, ◌*◌, ◌<◌, ◌≤◌, List, [], ◌∷◌, add-one, arith, get_or-drop, drop-drop}
use native.Mathlib.Nat.{sub_self}
use Rattle.transport.specs.Problem.{Problem}
use Rattle.transport.proofs.Orders.Lists.{Lists, lists_tail}
use Rattle.specification.specs.OrderFile.{pairs}
use Rattle.walk.specs.Places.{order_pair, rest}

module _ (order : List ℕ) (count : ℕ) where
  -- the pairs from a place on are the pair there and those from the next place on
  pub rest_more : (p : ℕ) → p < count → rest order count p ≡ order_pair order p ∷ rest order count (p + 1)
  unfolding pairs
  rest_more p h =
      let one : count - p ≡ suc (count - (p + 1)) = omega arith in
      let on : 7 + 2 * p + 2 ≡ 7 + 2 * (p + 1) = omega arith in
      let here : 7 + 2 * p + 0 ≡ 7 + 2 * p = omega arith in
      rw one (simp (pairs, get_or-drop, drop-drop, here, on))

  pub rest_none : rest order count count ≡ []
  unfolding pairs
  rest_none = rw (sub_self count)

  -- eligible pairs, each at most once, stand from each place on
  pub lists_from : (P : Problem) → Lists P (rest order count 0) → (p : ℕ) → p ≤ count → Lists P (rest order count p)
  lists_from P lists zero h = lists
  lists_from P lists (suc p) h =
      rw (← add-one p) (lists_tail (rw (rest_more p (omega arith)) at (lists_from P lists p (omega arith))))
