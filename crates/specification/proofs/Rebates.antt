-- Rebates from book version 2 (document 02, request 4): the versions, the costs of a readable book by its own, and the law
-- that ties the costs of the problem to those with a sign.
use mathlib.Core.Path.{◌≡◌, refl}
use mathlib.Core.Bool.{false}
use mathlib.Core.List.{List}
use Prim.Native.Nat.{ℕ, ◌+◌, ◌≤◌}
use native.Mathlib.Omega.{arith}
use borrow.Author.Tests.{le-ltb}
use lib.Dec.{ltb}
use lib.IntN.{pos}
use Rattle.transport.specs.Problem.{Eligible}
use Rattle.transport.proofs.Theorems.Signed.{signed_cost_is, signed_order}
use Rattle.specification.specs.Reply.{gives, Size}
use Rattle.specification.specs.Costs.{twos_complement, cost_outside, Allows, lifted_cost}
use Rattle.specification.specs.Book.{row_cost, book_version, read_book, row_at, problem_of, costs_of}
use Rattle.specification.specs.Requests.{Request4}
use Rattle.specification.proofs.Costs.{twos_complement_is, cost_lifted, cost_range}
use Rattle.specification.proofs.Books.{book_read, cost_allowed, book_lifts}

module _ (book : List ℕ) (n : Size) (reads : read_book book ≡ gives n) (i j : ℕ) (e : Eligible (problem_of book) i j) where
  abbrev held : ℕ
  held = row_cost (row_at book i) j

  signed_cost_lem : book_version book ≡ 2 → (costs_of book i j ≡ twos_complement held) × Allows 2 (costs_of book i j)
  unfolding costs_of
  signed_cost_lem two =
      let allowed : cost_outside 2 held ≡ false = rw two at (cost_allowed (book_read book n reads) i j e) in
      rw two (refl, cost_range 2 held allowed)

  unsigned_cost : book_version book ≡ 1
      → (costs_of book i j ≡ pos held) × ((problem_of book).cost i j ≡ held) × (held ≤ 1000000)
  unfolding problem_of costs_of
  unsigned_cost one =
      let lifted = cost_lifted 1 held (rw one at (cost_allowed (book_read book n reads) i j e)) in
      let same : held + 0 ≡ lifted_cost 0 held = cc lifted.lifted in
      rw one (refl, omega arith, omega (arith, lifted.within))

-- in version 1
outside_first : (held : ℕ) → cost_outside 1 held ≡ ltb 1000000 held
outside_first held = rw (le-ltb held 0 (omega arith)) refl

pub request4 : Request4
request4 = record {
  by_twos_complement = twos_complement_is;
  version_2 = λ book (n, reads) two i j e. signed_cost_lem book n reads i j e two;
  version_1 = λ book (n, reads) one i j e. unsigned_cost book n reads i j e one;
  version_1_outside = outside_first;
  lifts = λ book (n, reads). book_lifts (book_read book n reads);
  cost_is = λ book (n, reads) a b x h. signed_cost_is (book_lifts (book_read book n reads)) h;
  same_order = λ book (n, reads) a b a' b' x y f g units. signed_order (book_lifts (book_read book n reads)) f g units;
}
