-- What request 7 assumes is met: it speaks of something.
use mathlib.Core.Path.{◌≡◌, refl}
use mathlib.Core.Logic.{⊎_elim}
use mathlib.Core.List.{[], ◌∷◌}
use Prim.Native.Nat.{ℕ, ◌≤◌, ◌<◌}
use native.Mathlib.Omega.{arith}
use lib.Count.{ones, ones_in}
use lib.Dec.{lit<}
use lib.ListN.{replicate}
use Rattle.transport.specs.Problem.{sum}
use Rattle.transport.specs.Finder.{every}
use Rattle.transport.proofs.Laws.Tests.{below_suc}
use Rattle.specification.specs.Reply.{gives}
use Rattle.specification.specs.Bytes.{byte_at, u16_at, u32_at, read_opening}
use Rattle.specification.specs.Book.{read_costs, read_row, read_rows, read_book}
use Rattle.specification.specs.Amounts.{amounts_version, reserve_at, read_amounts_of, read_amounts}
use Rattle.specification.specs.Find.{find_and_run_flow}
use Rattle.specification.specs.Entry.{by_found}
use Rattle.specification.specs.Reserves.{KeptBack, SameAmounts}
use Rattle.specification.specs.Examples.{book1235, amounts5436}
use Rattle.specification.proofs.AllReserves.{reserved5436, reserve_cases}
use Rattle.specification.proofs.Reserves.{request7}

pub record ReservesMet : Type 0 where
  -- amounts with n and m of a book, of each version
  pub of_version_2 : (byte_at reserved5436 5 ≡ 2) × (byte_at reserved5436 6 ≡ 2) × (amounts_version reserved5436 ≡ 2)
  pub of_version_1 : amounts_version amounts5436 ≡ 1
  -- a run that is accepted, of lots with reserves above 0
  pub kept_back : (0 < reserve_at reserved5436 0) × KeptBack book1235 reserved5436 (find_and_run_flow book1235 reserved5436 (replicate 5 9))
  -- a flow that places 7 units of lot 0, which holds as many with 2 of them reserved, does not keep them back
  pub not_kept_back : KeptBack book1235 reserved5436 (0 ∷ 7 ∷ 3 ∷ 1 ∷ []) → ⊥
  -- amounts with reserves, and amounts of version 1 that hold as much less
  pub same_amounts : SameAmounts book1235 reserved5436 amounts5436

both_read : (read_amounts book1235 reserved5436 ≡ gives (record { lots = 2; calls = 2 }))
    × (read_amounts book1235 amounts5436 ≡ gives (record { lots = 2; calls = 2 }))
unfolding u16_at u32_at read_opening read_costs read_row read_rows read_book read_amounts_of read_amounts every ones ones_in
both_read = (refl, refl)

-- what holds of 0 and of 1 holds below 2
below_two : (Q : ℕ → Type 0) → Q 0 → Q 1 → (i : ℕ) → i < 2 → Q i
below_two Q zero_is one_is i h = ⊎_elim (λ last. rw last one_is) (λ before. let first : i ≡ 0 = omega arith in rw first zero_is) (below_suc h)

pub reserves_met : ReservesMet
unfolding u16_at u32_at read_opening sum
reserves_met =
    record {
      of_version_2 = (refl, refl, refl);
      of_version_1 = refl;
      kept_back = (lit< tt, request7.keeps by_found book1235 reserved5436 (replicate 5 9) _ reserve_cases.placed);
      not_kept_back = λ kept. let too_many : 9 ≤ 7 = kept 0 (lit< tt) in omega arith;
      same_amounts = record {
        reads = (_, both_read.0, both_read.1);
        lots = below_two _ refl refl;
        calls = below_two _ refl refl;
      };
    }
