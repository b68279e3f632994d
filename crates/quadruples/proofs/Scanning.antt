-- The specification's scan in turn, as a loop makes it: one number at a time from the front.
use mathlib.Core.Path.{◌≡◌, refl}
use mathlib.Core.Bool.{and-true, and-false}
use mathlib.Core.List.{List}
use Prim.Native.Nat.{ℕ, zero, suc, ◌+◌, ◌-◌, ◌≤◌, ◌<◌}
use native.Mathlib.Nat.{sub_self}
use native.Mathlib.Numerals.{add-one}
use native.Mathlib.Omega.{arith}
use borrow.Author.Tests.{lt-ltb, le-ltb}
use lib.Dec.{ltb}
use Rattle.specification.specs.Reply.{Reply, gives, refused, ◌>>=◌}
use Rattle.specification.specs.Check.{in_turn}
use Rattle.transport.specs.Problem.{Problem}
use Rattle.transport.specs.Greedy.{Pair}
use Rattle.specification.specs.declared.Refusal.{Refusal}
use Rattle.book.specs.Table.{entry}
use Rattle.quadruples.specs.Scan.{call_at, quadruple_at}

module _ (f : ℕ → Reply (Unit {0})) where
  turn_step : (m l : ℕ) → l < m → in_turn (m - l) l f ≡ (f l >>= λ _. in_turn (m - (l + 1)) (l + 1) f)
  unfolding in_turn
  turn_step m l h = let e : m - l ≡ suc (m - (l + 1)) = omega arith in rw (e, in_turn, add-one l)

  -- nothing is refused on l and the scan goes on, or it stops
  pub turn_goes_on : (m l : ℕ) → l < m → f l ≡ gives tt → in_turn (m - l) l f ≡ in_turn (m - (l + 1)) (l + 1) f
  turn_goes_on m l h e = rw (turn_step m l h, e) refl

  pub turn_stops : (x : Refusal) (m l : ℕ) → l < m → f l ≡ refused x → in_turn (m - l) l f ≡ refused x
  turn_stops x m l h e = rw (turn_step m l h, e) refl

  pub turn_ends : (m : ℕ) → in_turn (m - m) m f ≡ gives tt
  unfolding in_turn
  turn_ends m = rw (sub_self m)

  -- nothing is refused of all where nothing is refused of each
  pub turn_gives : (left from : ℕ) → ((l : ℕ) → l < from + left → f l ≡ gives tt) → in_turn left from f ≡ gives tt
  unfolding in_turn
  turn_gives zero from h = refl
  turn_gives (suc left) from h = rw (h from (omega arith)) (turn_gives left (suc from) (λ l k. h l (omega arith)))

pub turn_same : (f g : ℕ → Reply (Unit {0})) (left from : ℕ)
    → ((l : ℕ) → l < from + left → f l ≡ g l) → in_turn left from f ≡ in_turn left from g
unfolding in_turn
turn_same f g zero from h = refl
turn_same f g (suc left) from h = rw (h from (omega arith), turn_same f g left (suc from) (λ l k. h l (omega arith)))

-- with lot k: nothing where (k, j) does not stand later, and else what stands on (i, l)
module _ (P : Problem) (places : List ℕ) (place : ℕ) (p : Pair) (k l : ℕ) where
  pub not_later : entry places k p.call ≤ place + 1 → quadruple_at P places place p k l ≡ gives tt
  not_later h = rw (le-ltb (place + 1) (entry places k p.call) h, and-false (ltb (place + 1) (entry places p.lot l)))

  pub later : place + 1 < entry places k p.call
      → call_at P places place p k l ≡ quadruple_at P places place p k l
  later h = rw (lt-ltb (place + 1) (entry places k p.call) h, and-true (ltb (place + 1) (entry places p.lot l)))
