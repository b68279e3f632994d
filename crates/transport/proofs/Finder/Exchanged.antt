-- Lots and calls exchanged: a pair is free in a problem exactly when it is free, turned round, in the problem whose lots are the calls.
use mathlib.Core.Path.{◌≡◌}
use mathlib.Core.Bool.{Bool}
use Prim.Native.Nat.{ℕ, ◌<◌}
use native.Mathlib.Omega.{arith}
use Rattle.transport.specs.Problem.{Problem}
use Rattle.transport.specs.Finder.{free}
use Rattle.transport.proofs.Laws.Tests.{T_ext}
use Rattle.transport.proofs.Finder.Free.{Free, free_says, free_of}

-- the problem with lots and calls exchanged, and a set of pairs turned round
abbrev pub exchanged : Problem → Problem
exchanged P = record { lots = P.calls; calls = P.lots; admits = λ j i. P.admits i j; cost = λ j i. P.cost i j }

abbrev pub across : (ℕ → ℕ → Bool) → ℕ → ℕ → Bool
across rest j i = rest i j

-- the condition for (i, j) with k and l is the one for (j, i) with l and k
free_across : (P : Problem) (rest : ℕ → ℕ → Bool) (i j : ℕ) → Free P rest i j → Free (exchanged P) (across rest) j i
free_across P rest i j f l k kj il =
    let fit = f k l (il.1, il.0, il.2) (kj.1, kj.0, kj.2) in
    record { admitted = fit.admitted; no_dearer = omega (arith, fit.no_dearer) }

pub free_exchanged : (P : Problem) (rest : ℕ → ℕ → Bool) (i j : ℕ) → i < P.lots → j < P.calls
    → free P rest i j ≡ free (exchanged P) (across rest) j i
free_exchanged P rest i j hi hj = T_ext (free P rest i j) (free (exchanged P) (across rest) j i)
    (λ t. free_of (exchanged P) (across rest) j i hj hi (free_across P rest i j (free_says P rest i j t)))
    (λ t. free_of P rest i j hi hj
    (free_across (exchanged P) (across rest) j i (free_says (exchanged P) (across rest) j i t)))
