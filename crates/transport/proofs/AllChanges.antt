-- F1's run brought up to date (document 02, request 8), worked out from the definitions alone, as the books of `AllBooks` are.
use mathlib.Core.Path.{◌≡◌, refl}
use mathlib.Core.Bool.{true, false}
use mathlib.Core.List.{[], ◌∷◌}
use Rattle.transport.specs.Greedy.{pair, put_pair, State, give_all}
use Rattle.transport.specs.Order.{times}
use Rattle.transport.specs.Finder.{every}
use Rattle.transport.specs.Changes.{lot_takes, call_takes, concerns, earlier, onward, entry_sum, entries_fit, updated}
use Rattle.transport.proofs.AllBooks.{listed, book₁, order₁, given₁}

-- lot 1 takes a new amount: its first pair is (1, 0), so the entries of (0, 1) and (0, 0) stay
book₁_earlier : (earlier (concerns (lot_takes 1 6)) order₁ ≡ pair 0 1 ∷ pair 0 0 ∷ [])
    × (onward (concerns (lot_takes 1 6)) order₁ ≡ pair 1 0 ∷ pair 1 1 ∷ [])
unfolding earlier onward
book₁_earlier = (refl, refl)

-- call 0 takes 1 for 3, its first pair being (0, 0); then lot 0 takes 7 for 5, whose first pair is the first of all: the flow goes from
-- 0 5 / 3 1 over 0 5 / 1 1 to 1 6 / 0 0, and lot 1 has 4 left
abbrev call_took : State
call_took = updated (concerns (call_takes 0 1)) order₁ (listed (5 ∷ 4 ∷ [])) (listed (1 ∷ 6 ∷ [])) given₁

abbrev lot_took : State
lot_took = updated (concerns (lot_takes 0 7)) order₁ (listed (7 ∷ 4 ∷ [])) (listed (1 ∷ 6 ∷ [])) call_took.given

book₁_changed : (call_took.given 0 1 ≡ 5) × (call_took.given 1 0 ≡ 1) × (call_took.given 1 1 ≡ 1) × (call_took.left 1 ≡ 2)
unfolding earlier onward entry_sum times give_all
book₁_changed = (refl, refl, refl, refl)

book₁_changed_again : (lot_took.given 0 0 ≡ 1) × (lot_took.given 0 1 ≡ 6) × (lot_took.given 1 0 ≡ 0) × (lot_took.left 1 ≡ 4)
unfolding earlier onward entry_sum times give_all
book₁_changed_again = (refl, refl, refl, refl)

-- 22: after a change of lot 1, an entry of 6 at (0, 1) is more than lot 0 has, and one of 5 is not
book₁_fits : (entries_fit book₁ (listed (5 ∷ 6 ∷ [])) (listed (3 ∷ 6 ∷ [])) (put_pair given₁ (pair 0 1) 6) (earlier (concerns (lot_takes 1 6)) order₁) ≡ false)
    × (entries_fit book₁ (listed (5 ∷ 6 ∷ [])) (listed (3 ∷ 6 ∷ [])) given₁ (earlier (concerns (lot_takes 1 6)) order₁) ≡ true)
unfolding earlier entry_sum every give_all
book₁_fits = (refl, refl)
