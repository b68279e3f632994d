-- Stock to spare, with an idle call (document 02, request 2): the order of the book alone leaves the wrong lot idle.
use mathlib.Core.Path.{subst}
use mathlib.Core.List.{[], ◌∷◌}
use Prim.Native.Nat.{ℕ, ◌≤◌}
use Rattle.transport.specs.Problem.{total_cost, MeetsCalls}
use Rattle.transport.specs.Idle.{with_idle}
use Rattle.transport.proofs.Theorems.{finder_sound}
use Rattle.transport.proofs.Theorems.Idle.{idle_cheapest}
use Rattle.transport.proofs.AllBooks.{listed, spare, spare_order, spare_found, spare_runs}

-- with an idle call 9 is the least cost of meeting every call
spare_least : (x : ℕ → ℕ → ℕ) → MeetsCalls spare (listed (3 ∷ 4 ∷ [])) (listed (3 ∷ 2 ∷ [])) x → 9 ≤ total_cost spare x
spare_least x m =
    let (order, monge) = finder_sound (with_idle 0 spare) spare_order spare_found.1 in
    let (_, _, least) = idle_cheapest 0 spare order (listed (3 ∷ 4 ∷ [])) (listed (3 ∷ 2 ∷ [])) monge x m in
    subst (λ (n : ℕ). n ≤ total_cost spare x) spare_runs.5 least
