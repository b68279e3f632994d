-- Amounts as 32-bit numbers to which nothing is added, reserves of which there are none, and what `all` answers in the word `every`.
use Rattle.std.proofs.Common.{◌≡◌, ℕ, ◌+◌, ◌*◌, ◌<◌, List, Bool, true, false, leb, get_or, length, ap, arith, sym, zero-add}
use mathlib.Core.Path.{fun_ext}
use lib.Dec.{le→leb}
use Rattle.std.specs.Bool.{MatchBool}
use Rattle.std.specs.List.{range_with_len, AllWithin, HoldsAt}
use Rattle.std.proofs.lemmas.List.FromFn.{length-range_with_len, get_or-range_with_len}
use Rattle.transport.specs.Finder.{every}
use Rattle.transport.proofs.Laws.Tests.{T_of, T_true}
use Rattle.transport.proofs.Laws.Searches.{every_of, every_false}
use Rattle.specification.specs.Bytes.{u32_at}
use Rattle.specification.specs.Costs.{lifted_cost}
use Rattle.specification.specs.Amounts.{amount_limit, amount_at, carries_reserves, reserve_at}
use Rattle.specification.proofs.Numbers.{u32_below}
use Rattle.amounts.proofs.Reserves.{within_without}

pub amounts_within : (s : List ℕ) → ((i : ℕ) → get_or s i 0 < 256) → (n : ℕ)
    → every n (λ k. leb (amount_at s k) amount_limit) ≡ every n (λ k. leb (lifted_cost 0 (u32_at s (7 + 4 * k))) amount_limit)
amounts_within s bytes n =
    let same : (k : ℕ) → amount_at s k ≡ lifted_cost 0 (amount_at s k) = λ k. let below = u32_below s bytes (7 + 4 * k) in omega arith in
    ap (every n) (fun_ext (λ k. ap (λ v. leb v amount_limit) (same k)))

pub none_reserved : (s : List ℕ) → carries_reserves s ≡ false → (n : ℕ) → every n (λ i. leb (reserve_at s i) (amount_at s i)) ≡ true
none_reserved s none n = T_true _ (every_of n _ (λ i h. le→leb _ _ (within_without s none i)))

-- what `all` answers of the numbers below n
pub every_from_all : (r : Bool) (n : ℕ) (f : ℕ → Bool)
    → MatchBool r (AllWithin (λ i. f i ≡ true) (range_with_len 0 n) 0 (length (range_with_len 0 n)))
    ((k : ℕ) × (k < length (range_with_len 0 n)) × HoldsAt (λ i. f i ≡ false) (range_with_len 0 n) k)
    → r ≡ every n f
every_from_all true n f h =
    sym (T_true _ (every_of n f (λ i l. T_of (rw (get_or-range_with_len, zero-add) at (h i 0 (omega arith) (rw length-range_with_len l))))))
every_from_all false n f (k, l, h) =
    let l' : k < n = rw length-range_with_len at l in
    sym (every_false n f k l' (rw (get_or-range_with_len, zero-add) at (h 0)))
