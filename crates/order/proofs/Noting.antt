-- The places of the pairs of an order file. `met_at` keeps the last place at which a pair stands, so a pair stands from place p on exactly when
-- that place is p or later, and before p exactly when it has one at all among the first p.
use mathlib.Core.Path.{◌≡◌, refl, sym, ◌∙◌, ap, subst}
use mathlib.Core.Logic.{⊎_elim, by_cases}
use mathlib.Core.Bool.{◌||◌}
use mathlib.Core.List.{List}
use Prim.Native.Nat.{ℕ, zero, suc, ◌+◌, ◌≤◌, ◌<◌}
use native.Mathlib.Decide.{dec_lt}
use native.Mathlib.Omega.{arith}
use borrow.Author.Tests.{lt-ltb, le-ltb}
use lib.Dec.{T, ltb, ltb→lt, lt→ltb}
use Rattle.transport.specs.Order.{times}
use Rattle.transport.proofs.Laws.Tests.{T?, T_ext, or_says, or_of_left, or_of_right, same}
use Rattle.transport.proofs.Orders.Places.{times_same, times_other}
use Rattle.transport.proofs.Finder.Standing.{standing, standing_cons}
use Rattle.walk.specs.Places.{order_pair, rest}
use Rattle.walk.proofs.Placing.{rest_more, rest_none}
use Rattle.order.specs.Noted.{passed, met_at}
use Rattle.order.proofs.Arrays.{put_at, put_away}

module _ (order : List ℕ) (count : ℕ) where
  -- where a pair's last place is p, it stands there
  met_stands : (n i j p : ℕ) → met_at order n i j ≡ suc p → T (same i j (order_pair order p))
  unfolding met_at
  met_stands zero i j p e = absurd (omega arith)
  met_stands (suc n) i j p e = by_cases (T? (same i j (order_pair order n)))
      (λ t. let q : n ≡ p = omega (arith, put_at (met_at order n) (order_pair order n) (suc n) i j t) in
      subst (λ (x : ℕ). T (same i j (order_pair order x))) q t)
      (λ t. met_stands n i j p (sym (put_away (met_at order n) (order_pair order n) (suc n) i j t) ∙ e))

  met_within : (n i j : ℕ) → met_at order n i j ≤ n
  unfolding met_at
  met_within zero i j = omega arith
  met_within (suc n) i j = by_cases (T? (same i j (order_pair order n)))
      (λ t. omega (arith, put_at (met_at order n) (order_pair order n) (suc n) i j t))
      (λ t. omega (arith, put_away (met_at order n) (order_pair order n) (suc n) i j t, met_within n i j))

  -- where it stands at p, its last place is p or later
  pub met_late : (n i j p : ℕ) → p < n → T (same i j (order_pair order p)) → p < met_at order n i j
  unfolding met_at
  met_late zero i j p h s = absurd (omega arith)
  met_late (suc n) i j p h s = by_cases (T? (same i j (order_pair order n)))
      (λ t. omega (arith, put_at (met_at order n) (order_pair order n) (suc n) i j t))
      (λ t. omega (arith, put_away (met_at order n) (order_pair order n) (suc n) i j t, met_late n i j p (before t) s))
    where
      before : (T (same i j (order_pair order n)) → ⊥) → p < n
      before t = by_cases (dec_lt p n) (λ l. l)
          (λ l. let q : p ≡ n = omega arith in
          absurd (t (subst (λ (x : ℕ). T (same i j (order_pair order x))) q s)))

  -- its last place is p or later exactly when it is after p, or the pair stands at p
  here_or_later : (p i j : ℕ) → p < count
      → (ltb (p + 1) (met_at order count i j) || same i j (order_pair order p)) ≡ ltb p (met_at order count i j)
  here_or_later p i j h =
      let last = met_at order count i j in
      let here = same i j (order_pair order p) in
      T_ext (ltb (p + 1) last || here) (ltb p last)
      (λ t. ⊎_elim
      (λ s. lt→ltb p last (omega (arith, ltb→lt (p + 1) last s)))
      (λ s. lt→ltb p last (met_late count i j p h s))
      (or_says (ltb (p + 1) last) here t))
      (λ t. by_cases (dec_lt (p + 1) last)
      (λ l. or_of_left (ltb (p + 1) last) here (lt→ltb (p + 1) last l))
      (λ l. or_of_right (ltb (p + 1) last) here (met_stands count i j p (omega (arith, ltb→lt p last t)))))

  -- a pair stands from place p on exactly when its last place is p or later
  pub met_later : (left p i j : ℕ) → left + p ≡ count → standing (rest order count p) i j ≡ ltb p (met_at order count i j)
  unfolding times
  met_later zero p i j e =
      let q : p ≡ count = omega arith in
      rw (q, rest_none order count, le-ltb count (met_at order count i j) (met_within count i j))
  met_later (suc left) p i j e =
      rw (rest_more order count p (omega arith), standing_cons, met_later left (p + 1) i j (omega arith)) (here_or_later p i j (omega arith))

-- a pair was passed exactly when it has a place
pub met_passed : (order : List ℕ) (p i j : ℕ) → ltb 0 (times i j (passed order p)) ≡ ltb 0 (met_at order p i j)
unfolding passed met_at times
met_passed order zero i j = refl
met_passed order (suc p) i j = by_cases (T? (same i j (order_pair order p)))
    (λ t. lt-ltb 0 (times i j (passed order (suc p))) (omega (arith, times_same i j (order_pair order p) (passed order p) t))
    ∙ sym (lt-ltb 0 (met_at order (suc p) i j) (omega (arith, put_at (met_at order p) (order_pair order p) (suc p) i j t))))
    (λ t. ap (ltb 0) (times_other i j (order_pair order p) (passed order p) t)
    ∙ met_passed order p i j
    ∙ sym (ap (ltb 0) (put_away (met_at order p) (order_pair order p) (suc p) i j t)))
