-- What is searched.
use Rattle.std.specs.Prelude.{◌≡◌, true, false, List, ℕ, ◌+◌, get_or}
use Rattle.transport.proofs.Finder.Ranks.{Ranked}
use Rattle.slacks.specs.Slacks.{by_slacks, Slacks, Eligible}
use Rattle.ranks.specs.declared.Ranking.{Ranking}
use Rattle.ranks.specs.Numbered.{Numbered, Plain}

-- slacks of so many lots and calls, with the words of the eligible calls, and ranks, by which they are Monge, if so said, and else the own numbers
pub record Table (slacks : List ℕ) (lots calls : ℕ) (eligible : List ℕ) (ranking : Ranking) : Type 0 where
  pub slacks_are : Slacks slacks lots calls
  pub eligible_are : Eligible slacks lots calls eligible
  pub numbered : Numbered lots calls ranking.names ranking.ranks
  pub monge : ranking.ranked ≡ true → Ranked (by_slacks slacks lots calls) (λ i. get_or ranking.ranks i 0) (λ j. get_or ranking.ranks (32 + j) 0)
  pub plain : ranking.ranked ≡ false → Plain ranking.ranks

-- the same, of some lots and calls
pub record Tabled (slacks eligible : List ℕ) (ranking : Ranking) : Type 0 where
  pub lots : ℕ
  pub calls : ℕ
  pub table : Table slacks lots calls eligible ranking
