-- `free` by two tests, where the costs are Monge by ranks. For a lot k of higher rank than i and a call l of higher rank than j, or both
-- lower, (i, j) fits with (k, l) by the ranks alone. For k higher and l lower it fits exactly when the excess of that rectangle, which is
-- never negative, is 0; a wider rectangle has no less, so the widest decides: to the last lot of the call and the first call of the lot.
-- So for k lower and l higher.
use mathlib.Core.Path.{◌≡◌}
use mathlib.Core.Logic.{◌↔◌}
use mathlib.Core.Bool.{Bool, ◌&&◌}
use Prim.Native.Nat.{ℕ, ◌≤◌, ◌<◌}
use native.Mathlib.Decide.{dec_le}
use native.Mathlib.Omega.{arith}
use lib.Dec.{T}
use Rattle.transport.specs.Problem.{Problem, Eligible}
use Rattle.transport.specs.Finder.{fits, free}
use Rattle.transport.proofs.Laws.Tests.{T_ext, and_says, and_of}
use Rattle.transport.proofs.Laws.Sets.{Remains, Among}
use Rattle.transport.proofs.Orders.Monge.{Fits}
use Rattle.transport.proofs.Finder.Free.{Free, fits_says, fits_of, free_says, free_of}
use Rattle.transport.proofs.Finder.Ranks.{Ranked, ranked_fits}

-- of the numbers that are in a set, the one of least rank and the one of greatest
pub record Ends (rank : ℕ → ℕ) (In : ℕ → Type 0) (low high : ℕ) : Type 0 where
  pub low_in : In low
  pub high_in : In high
  pub least : (k : ℕ) → In k → rank low ≤ rank k
  pub greatest : (k : ℕ) → In k → rank k ≤ rank high

-- the ends of a lot are calls, of a call lots
abbrev pub LotEnds : Problem → (ℕ → ℕ) → (ℕ → ℕ → Bool) → ℕ → ℕ → ℕ → Type 0
LotEnds P s rest i first last = Ends s (λ l. Remains P rest i l) first last

abbrev pub CallEnds : Problem → (ℕ → ℕ) → (ℕ → ℕ → Bool) → ℕ → ℕ → ℕ → Type 0
CallEnds P r rest j top bottom = Ends r (λ k. Remains P rest k j) top bottom

module _ {P : Problem} {r s : ℕ → ℕ} (ranked : Ranked P r s) (rest : ℕ → ℕ → Bool) (among : Among P rest P.admits)
    (i j first last top bottom : ℕ) (row : LotEnds P s rest i first last) (column : CallEnds P r rest j top bottom) where
  -- what remains is eligible
  eligible : {k l : ℕ} → Remains P rest k l → Eligible P k l
  eligible {k} {l} u = (u.0, u.1, among k l u)

  -- the two corners decide each other one: two narrower rectangles fill what the wide one has beyond that of (k, l)
  fits_inside : Fits P i j bottom first → Fits P i j top last → (k l : ℕ) → Remains P rest i l → Remains P rest k j
      → Dec (r i ≤ r k) → Dec (s j ≤ s l) → Fits P i j k l
  fits_inside low high k l il kj (yes h) (yes g) =
      let c = ranked_fits ranked i k j l (eligible il) (eligible kj) h g in
      record { admitted = c.far; no_dearer = c.no_dearer }
  fits_inside low high k l il kj (no h) (no g) =
      let c = ranked_fits ranked k i l j (eligible kj) (eligible il) (omega arith) (omega arith) in
      record { admitted = c.near; no_dearer = omega (arith, c.no_dearer) }
  fits_inside low high k l il kj (yes h) (no g) =
      let below : r k ≤ r bottom = column.greatest k kj in
      let before : s first ≤ s l = row.least l il in
      let hb : bottom < P.lots = column.high_in.0 in
      let wide = ranked_fits ranked i bottom first l (eligible il) (hb, row.low_in.1, low.admitted) (omega arith) before in
      let inner = ranked_fits ranked k bottom l j (eligible kj) (hb, il.1, wide.far) below (omega arith) in
      record { admitted = inner.near; no_dearer = omega (arith, low.no_dearer, inner.no_dearer, wide.no_dearer) }
  fits_inside low high k l il kj (no h) (yes g) =
      let above : r top ≤ r k = column.least k kj in
      let after : s l ≤ s last = row.greatest l il in
      let ht : top < P.lots = column.low_in.0 in
      let wide = ranked_fits ranked top i l last (ht, row.high_in.1, high.admitted) (eligible il) (omega arith) after in
      let inner = ranked_fits ranked top k j l (ht, il.1, wide.near) (eligible kj) above g in
      record { admitted = inner.far; no_dearer = omega (arith, high.no_dearer, inner.no_dearer, wide.no_dearer) }

  -- the two corners: (i, j) is free exactly when it fits with the last lot and first call, and with the first lot and last call
  pub free_iff_corners : Free P rest i j ↔ (Fits P i j bottom first × Fits P i j top last)
  free_iff_corners = (
    λ f. (f bottom first row.low_in column.high_in, f top last row.high_in column.low_in),
    λ (low, high) k l il kj. fits_inside low high k l il kj (dec_le (r i) (r k)) (dec_le (s j) (s l)),
  )

  pub free_is_corners : free P rest i j ≡ (fits P i j bottom first && fits P i j top last)
  free_is_corners = T_ext (free P rest i j) (fits P i j bottom first && fits P i j top last) to from
    where
      to : T (free P rest i j) → T (fits P i j bottom first && fits P i j top last)
      to t =
          let (low, high) = free_iff_corners.0 (free_says P rest i j t) in
          and_of (fits P i j bottom first) (fits P i j top last) (fits_of P i j bottom first low) (fits_of P i j top last high)

      from : T (fits P i j bottom first && fits P i j top last) → T (free P rest i j)
      from t =
          let (low, high) = and_says (fits P i j bottom first) (fits P i j top last) t in
          free_of P rest i j row.low_in.0 column.low_in.1
          (free_iff_corners.1 (fits_says P i j bottom first low, fits_says P i j top last high))
