-- Costs that are Monge once lots and calls are ranked. A table is Monge where its neighbours are: each wider rectangle is laid of those
-- of neighbours.
use mathlib.Core.Path.{◌≡◌, sym, ◌∙◌, ap}
use mathlib.Core.Logic.{◌⊎◌, inl, inr, ⊎_elim, by_cases}
use Prim.Native.Nat.{ℕ, zero, suc, ◌+◌, ◌≤◌, ◌<◌}
use native.Mathlib.Nat.{eq-or-lt_of_le}
use native.Mathlib.Numerals.{add-one}
use native.Mathlib.Omega.{arith}
use lib.Dec.{T}
use Rattle.transport.specs.Problem.{Problem, Eligible}
use Rattle.transport.proofs.Laws.Tests.{below_suc, T?}

-- in a table of n rows and m columns: of two rows and two columns, the corners on the main diagonal are no more than the other two
abbrev pub MongeTable : (ℕ → ℕ → ℕ) → ℕ → ℕ → Type 0
MongeTable table n m = (p k q l : ℕ) → p < k → k < n → q < l → l < m → table p q + table k l ≤ table p l + table k q

-- the same of two rows and two columns that are neighbours
abbrev pub Neighbours : (ℕ → ℕ → ℕ) → ℕ → ℕ → Type 0
Neighbours table n m = (p q : ℕ) → p + 1 < n → q + 1 < m
    → table p q + table (p + 1) (q + 1) ≤ table p (q + 1) + table (p + 1) q

module _ (table : ℕ → ℕ → ℕ) (n m : ℕ) (near : Neighbours table n m) where
  near_suc : (p q : ℕ) → suc p < n → suc q < m → table p q + table (suc p) (suc q) ≤ table p (suc q) + table (suc p) q
  near_suc p q h g = rw (← add-one p, ← add-one q) (near p q (omega arith) (omega arith))

  rows_near : (p q l : ℕ) → suc p < n → q < l → l < m → table p q + table (suc p) l ≤ table p l + table (suc p) q
  rows_near p q zero h g b = absurd (omega arith)
  rows_near p q (suc l) h g b = ⊎_elim
      (λ (e : q ≡ l). rw e (near_suc p l h b))
      (λ (c : q < l). omega (arith, rows_near p q l h c (omega arith), near_suc p l h b))
      (below_suc g)

  pub monge_of_neighbours : MongeTable table n m
  monge_of_neighbours p zero q l h a g b = absurd (omega arith)
  monge_of_neighbours p (suc k) q l h a g b = ⊎_elim
      (λ (e : p ≡ k). rw e (rows_near k q l a g b))
      (λ (c : p < k). omega (arith, monge_of_neighbours p k q l c (omega arith) g b, rows_near k q l a g b))
      (below_suc h)

-- the pairs on the main diagonal of two lots and two calls are eligible, and cost no more than the other two
pub record Crossed (P : Problem) (i k j l : ℕ) : Type 0 where
  pub near : T (P.admits i j)
  pub far : T (P.admits k l)
  pub no_dearer : P.cost i j + P.cost k l ≤ P.cost i l + P.cost k j

-- the numbers below n renamed: rank names each anew, and at says which one has a rank
pub record Renames (n : ℕ) (rank at : ℕ → ℕ) : Type 0 where
  pub rank_below : (i : ℕ) → i < n → rank i < n
  pub at_below : (p : ℕ) → p < n → at p < n
  pub at_rank : (i : ℕ) → i < n → at (rank i) ≡ i
  pub rank_at : (p : ℕ) → p < n → rank (at p) ≡ p

-- ranks are equal only of the same number
module _ {n : ℕ} {rank at : ℕ → ℕ} (names : Renames n rank at) where
  pub rank_apart : (i k : ℕ) → i < n → k < n → rank i ≡ rank k → i ≡ k
  rank_apart i k hi hk e = sym (names.at_rank i hi) ∙ ap at e ∙ names.at_rank k hk

-- a problem in which no two lots and no two calls have the same rank, and which is Monge by the ranks: of two lots and two calls, where the pairs
-- off the main diagonal are eligible, so are those on it, and these cost no more
pub record Ranked (P : Problem) (r s : ℕ → ℕ) : Type 0 where
  pub lots_apart : (i k : ℕ) → i < P.lots → k < P.lots → r i ≡ r k → i ≡ k
  pub calls_apart : (j l : ℕ) → j < P.calls → l < P.calls → s j ≡ s l → j ≡ l
  pub monge : (i k j l : ℕ) → Eligible P i l → Eligible P k j → r i < r k → s j < s l → Crossed P i k j l

-- ranks that are equal count too
pub ranked_fits : {P : Problem} {r s : ℕ → ℕ} → Ranked P r s → (i k j l : ℕ) → Eligible P i l → Eligible P k j
    → r i ≤ r k → s j ≤ s l → Crossed P i k j l
ranked_fits {P} {r} {s} ranked i k j l il kj h g = cases (eq-or-lt_of_le h) (eq-or-lt_of_le g)
  where
    cases : (r i ≡ r k) ⊎ (r i < r k) → (s j ≡ s l) ⊎ (s j < s l) → Crossed P i k j l
    cases (inl e) d =
        let same : i ≡ k = ranked.lots_apart i k il.0 kj.0 e in
        rw same (record { near = kj.2; far = rw (← same) il.2; no_dearer = omega arith })
    cases (inr lots) (inl e) =
        let same : j ≡ l = ranked.calls_apart j l kj.1 il.1 e in
        rw same (record { near = il.2; far = rw (← same) kj.2; no_dearer = omega arith })
    cases (inr lots) (inr calls) = ranked.monge i k j l il kj lots calls

-- Where the gaps of a problem are filled with numbers that are above two costs together, and the filled table is Monge, so is the problem:
-- the pairs on the main diagonal would be dearer than the other two if one of them were a gap.
module _ {P : Problem} (filled : ℕ → ℕ → ℕ)
    (own : (i j : ℕ) → Eligible P i j → filled i j ≡ P.cost i j)
    (gap : (i j k l x y : ℕ) → i < P.lots → j < P.calls → (T (P.admits i j) → ⊥) → Eligible P k l → Eligible P x y
    → P.cost k l + P.cost x y < filled i j) where
  pub crossed_of_filled : (i k j l : ℕ) → Eligible P i l → Eligible P k j → filled i j + filled k l ≤ filled i l + filled k j → Crossed P i k j l
  crossed_of_filled i k j l il kj h =
      let no_gap : (x y : ℕ) → x < P.lots → y < P.calls → filled x y ≤ filled i j + filled k l → T (P.admits x y) =
      λ x y hx hy le. by_cases (T? (P.admits x y)) (λ t. t)
      (λ n. absurd (omega (arith, h, le, own i l il, own k j kj, gap x y i l k j hx hy n il kj))) in
      let near = no_gap i j il.0 kj.1 (omega arith) in
      let far = no_gap k l kj.0 il.1 (omega arith) in
      record {
        near = near;
        far = far;
        no_dearer = omega (arith, h, own i j (il.0, kj.1, near), own k l (kj.0, il.1, far), own i l il, own k j kj);
      }
