-- An array of 32 by 32 entries that holds f: cleared, and after a store.
use mathlib.Core.Path.{◌≡◌, ◌∙◌}
use mathlib.Core.Logic.{by_cases}
use mathlib.Core.List.{List}
use Prim.Native.Nat.{ℕ, ◌+◌, ◌*◌, ◌≤◌, ◌<◌}
use native.Mathlib.Omega.{arith}
use lib.ListN.{set, replicate, length-set, length-replicate, get_or-replicate}
use lib.Seq.{get_or-set_same, get_or-set_other}
use lib.Dec.{T}
use Rattle.transport.specs.Greedy.{Pair, put_pair}
use Rattle.transport.proofs.Laws.Tests.{T?, T_true, T_false, same, same→eq, same_of_eq}
use Rattle.book.specs.Table.{entry}
use Rattle.order.specs.Noted.{Shows}

pub shows_all : {n m : ℕ} → n ≤ 32 → m ≤ 32 → (v : ℕ) → Shows n m (replicate 1024 v) (λ i j. v)
shows_all few few' v = record {
  long = length-replicate {A = ℕ} 1024 v;
  at = λ i j hi hj. get_or-replicate {A = ℕ} 1024 (32 * i + j) v 0 (omega arith);
}

pub put_at : (f : ℕ → ℕ → ℕ) (p : Pair) (v i j : ℕ) → T (same i j p) → put_pair f p v i j ≡ v
put_at f p v i j t = rw (T_true (same i j p) t)

pub put_away : (f : ℕ → ℕ → ℕ) (p : Pair) (v i j : ℕ) → (T (same i j p) → ⊥) → put_pair f p v i j ≡ f i j
put_away f p v i j t = rw (T_false (same i j p) t)

pub shows_set : {n m : ℕ} {xs : List ℕ} {f : ℕ → ℕ → ℕ} → n ≤ 32 → m ≤ 32 → Shows n m xs f
    → (p : Pair) (v : ℕ) → p.lot < n → p.call < m → Shows n m (set xs (32 * p.lot + p.call) v) (put_pair f p v)
shows_set {n} {m} {xs} {f} few few' s p v hi hj = record { long = length-set xs (32 * p.lot + p.call) v ∙ s.long; at = at }
  where
    at : (i j : ℕ) → i < n → j < m → entry (set xs (32 * p.lot + p.call) v) i j ≡ put_pair f p v i j
    at i j i< j< = by_cases (T? (same i j p))
        (λ t. here t (same→eq i j p t))
        (λ t. rw (put_away f p v i j t) (elsewhere t ∙ s.at i j i< j<))
      where
        here : T (same i j p) → (i ≡ p.lot) × (j ≡ p.call)
            → entry (set xs (32 * p.lot + p.call) v) i j ≡ put_pair f p v i j
        here t e = rw (put_at f p v i j t, e.0, e.1) (get_or-set_same xs _ v 0 (omega (arith, s.long)))

        elsewhere : (T (same i j p) → ⊥) → entry (set xs (32 * p.lot + p.call) v) i j ≡ entry xs i j
        elsewhere t = get_or-set_other xs _ _ v 0 (λ e. t (whole e))
          where
            whole : 32 * i + j ≡ 32 * p.lot + p.call → T (same i j p)
            whole e = same_of_eq i j p (omega arith) (omega arith)
