-- What an accepted change of one amount says (document 02, request 8): the order passes, the lot or call is of the book, the amounts are read with
-- the new amount in place, the flow buffer is long enough and the earlier entries fit. So its reply and its flow are a run's, from the first pair on.
use mathlib.Core.Path.{◌≡◌, refl}
use mathlib.Core.Bool.{Bool, not}
use mathlib.Core.List.{List}
use Prim.Native.Nat.{ℕ, ◌+◌, ◌*◌, ◌≤◌}
use lib.Dec.{T, nltb→le}
use lib.ListN.{length}
use Rattle.transport.specs.Changes.{Change, concerns}
use Rattle.transport.proofs.Orders.Lists.{lists_of_order}
use Rattle.transport.proofs.Greedy.Changes.{updated_kept}
use Rattle.specification.specs.Reply.{gives, Size, Outcome}
use Rattle.specification.specs.Book.{problem_of, costs_of}
use Rattle.specification.specs.Amounts.{read_amounts}
use Rattle.specification.specs.OrderFile.{order_pairs}
use Rattle.specification.specs.Run.{outcome, flow_of, flow_too_short}
use Rattle.specification.specs.Change.{changed_field, new_amount, is_in_book, amounts_with, flow_so_far, earlier_fit, updated_on}
use Rattle.specification.specs.Change.{change, change_amounts, change_flow}
use Rattle.specification.specs.Demands.{Passing}
use Rattle.specification.specs.DayChanges.{RanChange}
use Rattle.specification.proofs.Replies.{
  Says,
  giving,
  said_of_given,
  says_known,
  says_then,
  says_unless,
  says_afterwards,
  test_of_twice_not,
}
use Rattle.specification.proofs.Checks.{check_says}
use Rattle.specification.proofs.AmountsFiles.{amounts_say}
use Rattle.specification.proofs.Flows.{length_flow_of}
use Rattle.specification.proofs.Runs.{ran_of}
use Rattle.specification.proofs.PutNumbers.{length_put}

pub record ChangeGave (book order amounts flow : List ℕ) (c : Change) (o : Outcome) : Type 0 where
  pub outcome_is : o ≡ outcome (problem_of book) (costs_of book) (updated_on book (order_pairs order) (amounts_with book amounts c) flow c)
  pub passing : Passing book order
  pub inside : T (is_in_book book c)
  pub reads : (n : Size) × (read_amounts book (amounts_with book amounts c) ≡ gives n)
  pub long : (problem_of book).lots * (problem_of book).calls ≤ length flow
  pub fit : T (earlier_fit book (order_pairs order) (amounts_with book amounts c) flow c)

module _ (book order amounts flow : List ℕ) (c : Change) where
  -- what its refusals say is in `RefusedChanges`
  pub change_says : Says (ChangeGave book order amounts flow c) (λ k vs. Unit {0}) (change book order amounts flow c)
  unfolding change
  change_says =
      says_then _ (check_says book order) (λ k vs q. tt) (λ n (_, passing).
      says_unless (not (is_in_book book c)) 9 _ _ (λ t. tt) (λ in_it.
      says_then _ (says_known (amounts_say book (amounts_with book amounts c))) (λ k vs q. tt) (λ m (_, reads).
      says_unless (flow_too_short (problem_of book) flow) 17 _ _ (λ t. tt) (λ long.
      let fits : Bool = earlier_fit book (order_pairs order) (amounts_with book amounts c) flow c in
      says_unless (not fits) 22 _ _ (λ t. tt) (λ fit.
      giving (record {
        outcome_is = refl;
        passing = passing;
        inside = test_of_twice_not (is_in_book book c) in_it;
        reads = (m, reads);
        long = nltb→le _ _ long;
        fit = test_of_twice_not fits fit;
      }))))))

  -- both buffers keep their lengths
  pub length_change_amounts : length (change_amounts book order amounts flow c) ≡ length amounts
  unfolding change_amounts
  length_change_amounts = says_afterwards amounts _ (λ s. length s ≡ length amounts) change_says refl
      (λ o gave. length_put amounts (7 + 4 * changed_field book c) (new_amount c))

  pub length_change_flow : length (change_flow book order amounts flow c) ≡ length flow
  unfolding change_flow
  length_change_flow = says_afterwards flow _ (λ s. length s ≡ length flow) change_says refl
      (λ o gave. length_flow_of (problem_of book) _ flow gave.long)

  -- an accepted change
  module _ (o : Outcome) (e : change book order amounts flow c ≡ gives o) where
    pub gave : ChangeGave book order amounts flow c o
    gave = said_of_given change_says o e

    pub amounts_are : change_amounts book order amounts flow c ≡ amounts_with book amounts c
    unfolding change_amounts
    amounts_are = rw e refl

    flow_is : change_flow book order amounts flow c
        ≡ flow_of (problem_of book) (updated_on book (order_pairs order) (amounts_with book amounts c) flow c).given flow
    unfolding change_flow
    flow_is = rw e refl

    pub changed_ran : RanChange book order amounts flow c o
    changed_ran =
        let kept = updated_kept (lists_of_order gave.passing.each_once) (concerns c) _ _ (flow_so_far book flow) gave.fit in
        rw (flow_is, amounts_are, gave.outcome_is) (ran_of (problem_of book) (costs_of book) kept flow gave.long)
