-- What checking an order says. It passes exactly the order files of a readable book that have the right opening and length, hold each
-- eligible pair once, and are Monge sequences. Each refusal is by a number up to 8 for the two files, or one of 9 to 12 and 14.
use mathlib.Core.Path.{◌≡◌, refl, ◌∙◌, ap}
use mathlib.Core.Bool.{not}
use mathlib.Core.List.{List, []}
use Prim.Native.Nat.{ℕ, ◌+◌, ◌*◌, ◌<◌}
use native.Mathlib.Omega.{arith}
use lib.Dec.{ltb, ltb→lt, nltb→le}
use lib.ListN.{length}
use Rattle.transport.specs.Problem.{Problem}
use Rattle.transport.specs.Greedy.{Pair}
use Rattle.transport.specs.Order.{OrderOf}
use Rattle.transport.proofs.Orders.Lists.{Lists, lists_of_order}
use Rattle.specification.specs.Reply.{gives, refuses}
use Rattle.specification.specs.Bytes.{order_mark, read_opening}
use Rattle.specification.specs.Book.{read_book, problem_of}
use Rattle.specification.specs.OrderFile.{order_count, order_pairs}
use Rattle.specification.specs.Check.{complete, check_order}
use Rattle.specification.specs.Demands.{Passing}
use Rattle.specification.proofs.Replies.{
  Says,
  giving,
  not_both,
  said_of_given,
  gives_if_never_refused,
  says_known,
  says_then,
  says_unless,
  test_of_twice_not,
}
use Rattle.specification.proofs.Rows.{OpeningRefused, opening_says}
use Rattle.specification.proofs.Books.{BookRefused, book_says, book_monge, admitted_inside}
use Rattle.specification.proofs.Holding.{
  HoldingRefused,
  lists_never_refused,
  holding_says,
  Missing,
  missing_if_incomplete,
  complete_exactly,
  order_if_all_stand,
  order_misses_nothing,
}
use Rattle.specification.proofs.Crossing.{
  CrossRefused,
  hold_never_crossed,
  crossing_says,
  monge_exactly,
}

-- refused for the book, or for the order file's opening or length
pub data FilesRefused (book order : List ℕ) : ℕ → List ℕ → Type 0 where
  of_book : {k : ℕ} {vs : List ℕ} → BookRefused book k vs → read_book book ≡ refuses k vs → FilesRefused book order k vs
  of_opening : {k : ℕ} {vs : List ℕ} → OpeningRefused order_mark 1 order k vs → read_opening order_mark 1 order ≡ refuses k vs
      → FilesRefused book order k vs
  ends_early : length order < 7 + 2 * order_count order → FilesRefused book order 6 []
  bytes_after : 7 + 2 * order_count order < length order → FilesRefused book order 8 []

pub data CheckRefused (book order : List ℕ) : ℕ → List ℕ → Type 0 where
  of_files : {k : ℕ} {vs : List ℕ} → FilesRefused book order k vs → CheckRefused book order k vs
  of_holding : {k : ℕ} {vs : List ℕ} → HoldingRefused (problem_of book) (order_pairs order) k vs → CheckRefused book order k vs
  of_missing : Lists (problem_of book) (order_pairs order) → Missing (problem_of book) (order_pairs order) → CheckRefused book order 14 []
  of_crossing : {k : ℕ} {vs : List ℕ} → OrderOf (problem_of book) (order_pairs order)
      → CrossRefused (problem_of book) (order_pairs order) k vs → CheckRefused book order k vs

module _ (book order : List ℕ) where
  pub check_says : Says (λ n. (n ≡ order_count order) × Passing book order) (CheckRefused book order) (check_order book order)
  unfolding check_order
  check_says =
      let P : Problem = problem_of book in
      let S : List Pair = order_pairs order in
      let inside = admitted_inside book in
      says_then _ (says_known (book_says book)) (λ k vs (q, e). of_files (of_book q e)) (λ n (read, reads).
      says_then _ (says_known (opening_says order_mark 1 order)) (λ k vs (q, e). of_files (of_opening q e)) (λ _ (opened, opens).
      says_unless (ltb (length order) (7 + 2 * order_count order)) 6 _ _ (λ t. of_files (ends_early (ltb→lt _ _ t))) (λ long.
      says_unless (ltb (7 + 2 * order_count order) (length order)) 8 _ _ (λ t. of_files (bytes_after (ltb→lt _ _ t))) (λ short.
      says_then _ (holding_says P inside S) (λ k vs. of_holding) (λ _ lists.
      says_unless (not (complete P S)) 14 _ _ (λ t. of_missing lists (missing_if_incomplete P S t)) (λ all.
      let each_once = order_if_all_stand P S lists ((complete_exactly P S).0 (test_of_twice_not (complete P S) all)) in
      says_then _ (crossing_says P inside S) (λ k vs. of_crossing each_once) (λ _ hold.
      giving (
        refl,
        record {
          readable = (n, reads);
          shaped = record { opening = opens; whole = omega (arith, nltb→le) };
          each_once = each_once;
          monge = (book_monge book (n, reads) (order_pairs order)).1 ((monge_exactly each_once).0 hold);
        },
      ))))))))

  -- a refusal befalls no order that passes
  pub passing_not_refused : Passing book order → (k : ℕ) (vs : List ℕ) → CheckRefused book order k vs → ⊥
  passing_not_refused passing k vs (of_files (of_book q e)) = not_both passing.readable.1 e
  passing_not_refused passing k vs (of_files (of_opening q e)) = not_both passing.shaped.opening e
  passing_not_refused passing k vs (of_files (ends_early h)) = omega (arith, passing.shaped.whole)
  passing_not_refused passing k vs (of_files (bytes_after h)) = omega (arith, passing.shaped.whole)
  passing_not_refused passing k vs (of_holding q) = lists_never_refused (lists_of_order passing.each_once) k vs q
  passing_not_refused passing k vs (of_missing lists m) = order_misses_nothing (problem_of book) (order_pairs order) passing.each_once m
  passing_not_refused passing k vs (of_crossing each_once q) =
      let monge = (book_monge book passing.readable (order_pairs order)).0 passing.monge in
      hold_never_crossed ((monge_exactly passing.each_once).1 monge) k vs q

  -- the check passes exactly these
  pub check_passes : Passing book order → check_order book order ≡ gives (order_count order)
  check_passes passing =
      let (n, (count, _), e) = gives_if_never_refused check_says (passing_not_refused passing) in
      e ∙ ap gives count

  pub check_passes_only : (n : ℕ) → check_order book order ≡ gives n → Passing book order
  check_passes_only n e = (said_of_given check_says n e).1
