-- After a text all bytes are 0: what is so from k on is so from a later byte on.
use mathlib.Core.Path.{◌≡◌}
use mathlib.Core.List.{List}
use Prim.Native.Nat.{ℕ, ◌+◌, ◌-◌}
use native.Mathlib.Omega.{arith}
use lib.ListN.{drop, replicate}
use lib.Seq.{drop-drop}
use Rattle.std.proofs.lemmas.List.{drop-replicate}

pub zeros_later : (k more most : ℕ) (l : List ℕ) → drop k l ≡ replicate (most - k) 0 → drop (k + more) l ≡ replicate (most - (k + more)) 0
zeros_later k more most l e =
    let fewer : most - k - more ≡ most - (k + more) = omega arith in
    rw (← drop-drop more k l, e, drop-replicate {X = ℕ} more (most - k) 0, fewer)
