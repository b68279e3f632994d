-- Amounts that are the same at a problem's lots and calls, and any elsewhere. GREEDY by an order of the eligible pairs gives the same units by
-- either and leaves the same: it is GREEDY restarted with nothing still to come. The idle call's amount is the same too, and so is that run.
use mathlib.Core.Path.{◌≡◌, sym, ◌∙◌, ap, ap₂}
use mathlib.Core.Bool.{Bool}
use mathlib.Core.List.{List, [], append-nil}
use Prim.Native.Nat.{ℕ, ◌+◌, ◌-◌, ◌<◌}
use native.Mathlib.Omega.{arith}
use borrow.Author.Tests.{lt-ltb}
use lib.Dec.{ltb, ltb→lt, lt→ltb}
use Rattle.transport.specs.Problem.{Problem}
use Rattle.transport.specs.Greedy.{Pair, State, give_all, greedy}
use Rattle.transport.specs.Order.{OrderOf}
use Rattle.transport.specs.Idle.{with_idle, idle_amount, idle_amounts, without_idle, greedy_idle}
use Rattle.transport.proofs.Laws.Sums.{sum_cong, put_same, put_other, put_is}
use Rattle.transport.proofs.Orders.Lists.{lists_of_order}
use Rattle.transport.proofs.Greedy.Restart.{renewed, greedy_restart}

-- the amounts are the same at the problem's lots and calls
pub record SameAt (P : Problem) (a b a' b' : ℕ → ℕ) : Type 0 where
  pub lots : (i : ℕ) → i < P.lots → a i ≡ a' i
  pub calls : (j : ℕ) → j < P.calls → b j ≡ b' j

-- so is what two states leave of these, and all their units
pub record Agreeing (P : Problem) (s s' : State) : Type 0 where
  pub same_left : (i : ℕ) → i < P.lots → s.left i ≡ s'.left i
  pub same_lacks : (j : ℕ) → j < P.calls → s.lacks j ≡ s'.lacks j
  pub same_given : s.given ≡ s'.given

-- whether a number is below n
abbrev below : ℕ → ℕ → Bool
below n k = ltb k n

module _ {P : Problem} {S : List Pair} (order : OrderOf P S) {a b a' b' : ℕ → ℕ} (same : SameAt P a b a' b') where
  restarted : greedy S a b ≡ renewed (below P.lots) (below P.calls) a b (greedy S a' b')
  unfolding give_all
  restarted = ap (λ R. greedy R a b) (sym (append-nil S)) ∙ greedy_restart (below P.lots) (below P.calls) a' b' a b S []
      (λ i j h. let (hi, hj, _) = (lists_of_order order).eligible i j h in (lt→ltb i P.lots hi, lt→ltb j P.calls hj))
      (λ i t. same.lots i (ltb→lt i P.lots t))
      (λ j t. same.calls j (ltb→lt j P.calls t))

  pub greedy_agreeing : Agreeing P (greedy S a b) (greedy S a' b')
  greedy_agreeing = record {
    same_left = λ i h. ap (λ s. s.left i) restarted ∙ rw (lt-ltb i P.lots h);
    same_lacks = λ j h. ap (λ s. s.lacks j) restarted ∙ rw (lt-ltb j P.calls h);
    same_given = ap (λ s. s.given) restarted;
  }

-- so are the amounts of the enlarged problem
idle_same_at : (base : ℕ) {P : Problem} {a b a' b' : ℕ → ℕ} → SameAt P a b a' b'
    → SameAt (with_idle base P) a (idle_amounts P a b) a' (idle_amounts P a' b')
idle_same_at base {P} {a} {b} {a'} {b'} same = record {
  lots = same.lots;
  calls = λ j h. put_is b P.calls (idle_amount P a b) j (idle_amounts P a' b' j)
      (λ (e : j ≡ P.calls). rw e (idle ∙ sym (put_same b' P.calls (idle_amount P a' b'))))
      (λ ne. same.calls j (omega arith) ∙ sym (put_other b' P.calls (idle_amount P a' b') j ne));
}
  where
    idle : idle_amount P a b ≡ idle_amount P a' b'
    idle = ap₂ ◌-◌ (sum_cong P.lots a a' same.lots) (sum_cong P.calls b b' same.calls)

-- the run with an idle call, of the real calls
pub idle_agreeing : (base : ℕ) {P : Problem} {S : List Pair} → OrderOf (with_idle base P) S → {a b a' b' : ℕ → ℕ} → SameAt P a b a' b'
    → Agreeing P (greedy_idle P S a b) (greedy_idle P S a' b')
idle_agreeing base {P} order same =
    let agreeing = greedy_agreeing order (idle_same_at base same) in
    record {
      same_left = λ i h. ap₂ ◌+◌ (agreeing.same_left i h) (ap (λ x. x i P.calls) agreeing.same_given);
      same_lacks = λ j h. agreeing.same_lacks j (omega arith);
      same_given = ap (without_idle P) agreeing.same_given;
    }
