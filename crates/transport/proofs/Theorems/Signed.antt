-- (m) Costs with a sign (document 02, request 4), for every base: 0 for costs that have no sign, and another where rebates are paid. The
-- problem's costs are the signed ones with the base added.
use mathlib.Core.Path.{◌≡◌}
use mathlib.Core.Logic.{◌↔◌}
use mathlib.Core.List.{List}
use Prim.Native.Nat.{ℕ, ◌*◌, ◌≤◌}
use lib.IntN.{ℤ, pos, ◌-ℤ◌}
use lib.Signed.{◌≤ℤ◌}
use Rattle.transport.specs.Problem.{Problem, units, total_cost, Allocation, Meets, MeetsCalls}
use Rattle.transport.specs.Greedy.{Pair, greedy}
use Rattle.transport.specs.Order.{OrderOf, Monge, Good}
use Rattle.transport.specs.Idle.{with_idle, greedy_idle}
use Rattle.transport.specs.Signed.{signed_cost, Lifts, idle_costs, SignedMonge, SignedGood}
use Rattle.transport.proofs.Greedy.Signed.{cost_signed, signed_le, signed_monge, signed_good, signed_least_cost}
use Rattle.transport.proofs.Greedy.Signed.{idle_lifts, signed_idle_least}

module _ {base : ℕ} {P : Problem} {c : ℕ → ℕ → ℤ} (lifts : Lifts base P c) where
  -- (m) The signed cost of an allocation is its cost less the base for each unit. Greedy/Signed
  pub signed_cost_is : {a b : ℕ → ℕ} {x : ℕ → ℕ → ℕ} → Allocation P a b x
      → signed_cost P c x ≡ pos (total_cost P x) -ℤ pos (base * units P x)
  signed_cost_is {x = x} h = cost_signed lifts x h.eligible_only

  -- (m) So two allocations of as many units, of whatever amounts, are in the same order by signed costs. Greedy/Signed
  pub signed_order : {a b a' b' : ℕ → ℕ} {x y : ℕ → ℕ → ℕ} → Allocation P a b x → Allocation P a' b' y → units P x ≡ units P y
      → (signed_cost P c x ≤ℤ signed_cost P c y) ↔ (total_cost P x ≤ total_cost P y)
  signed_order {x = x} {y = y} f g e = signed_le lifts x y f.eligible_only g.eligible_only e

  -- (m) The Monge sequences, and the good orders, by signed costs are those of the problem. Greedy/Signed
  pub signed_monge_iff : (S : List Pair) → SignedMonge P c S ↔ Monge P S
  signed_monge_iff S = signed_monge lifts S

  pub signed_good_iff : (limit : ℕ) (S : List Pair) → SignedGood limit P c S ↔ Good limit P S
  signed_good_iff limit S = signed_good lifts limit S

  -- (m) By a Monge sequence GREEDY meets everything whenever some allocation does, and none that does has a lower signed cost.
  -- Greedy/Signed
  pub signed_cheapest : {S : List Pair} → OrderOf P S → SignedMonge P c S → (a b : ℕ → ℕ) (x : ℕ → ℕ → ℕ) → Meets P a b x
      → Meets P a b (greedy S a b).given × (signed_cost P c (greedy S a b).given ≤ℤ signed_cost P c x)
  signed_cheapest {S} order monge a b x h = signed_least_cost lifts order ((signed_monge_iff S).0 monge) a b h

  -- (m) The enlarged problem has the costs of the idle call at 0, with the base added. By a Monge sequence of it the run with an idle call
  -- meets every call whenever some allocation does, and none that does has a lower signed cost. Greedy/Signed
  pub signed_idle_lifts : Lifts base (with_idle base P) (idle_costs P c)
  signed_idle_lifts = idle_lifts lifts

  pub signed_idle_cheapest : {S : List Pair} → OrderOf (with_idle base P) S → SignedMonge (with_idle base P) (idle_costs P c) S
      → (a b : ℕ → ℕ) (x : ℕ → ℕ → ℕ) → MeetsCalls P a b x
      → MeetsCalls P a b (greedy_idle P S a b).given × (signed_cost P c (greedy_idle P S a b).given ≤ℤ signed_cost P c x)
  signed_idle_cheapest {S} order monge a b x m =
      signed_idle_least lifts order ((signed_monge signed_idle_lifts S).0 monge) a b m
