-- Each way out is the case that the tests before it tell (`Books`).
use Rattle.std.proofs.Common.{◌≡◌, ℕ, ◌+◌, ◌*◌, [], refl, sym, ap, ◌∙◌, arith}
use Rattle.std.proofs.lemmas.Result.{err_from_is_err_and}
use mathlib.Core.Bool.{false≢true}
use Rattle.specification.specs.declared.Refusal.{Refusal}
use Rattle.specification.specs.Reply.{gives}
use Rattle.specification.proofs.Books.{size_within}
use Rattle.book.proofs.Readable.{read_is}
use Rattle.finder.proofs.Books.{found_refused, found_short, refused_replies, search_replies}
use Rattle.finder.proofs.find_order.Goals as goal

pub returns-in_default-clause-result_value : goal.returns-in_default-clause-result_value
returns-in_default-clause-result_value c = (refused_replies _ _ _ _ (found_refused _ _ (sym (rw c.unwrap_err.ensures at c.read_book-answer.ensures)))).0

pub returns-in_default-clause-order_after : goal.returns-in_default-clause-order_after
returns-in_default-clause-order_after c = (refused_replies _ _ _ _ (found_refused _ _ (sym (rw c.unwrap_err.ensures at c.read_book-answer.ensures)))).1

pub overflow_mul-length : goal.overflow_mul-length
overflow_mul-length c = omega (arith, c.pair_count.ensures, size_within (read_is _ _ (sym c.in-Ok.ensures)).known)

pub overflow_add-length : goal.overflow_add-length
overflow_add-length c = omega (arith, c.pair_count.ensures, size_within (read_is _ _ (sym c.in-Ok.ensures)).known)

pub returns-then-order-length-clause-result_value : goal.returns-then-order-length-clause-result_value
returns-then-order-length-clause-result_value c =
    (refused_replies _ _ 17 [] (found_short _ _ (sym c.in-Ok.ensures) (omega (arith, c.pair_count.ensures, c.if-order-length.true)))).0

pub returns-then-order-length-clause-order_after : goal.returns-then-order-length-clause-order_after
returns-then-order-length-clause-order_after c =
    (refused_replies _ _ 17 [] (found_short _ _ (sym c.in-Ok.ensures) (omega (arith, c.pair_count.ensures, c.if-order-length.true)))).1

pub find_by-requires : goal.find_by-requires
find_by-requires c = record { room = λ e. absurd (false≢true e); long_enough = omega (arith, c.pair_count.ensures, c.if-order-length.false) }

pub returns-in_err-ok_or-clause-result_value : goal.returns-in_err-ok_or-clause-result_value
returns-in_err-ok_or-clause-result_value c =
    let p = err_from_is_err_and c.from_residual.result c.from_residual.ensures.1 in
    let replies = search_replies _ _ _ (sym c.in-Ok.ensures) (omega (arith, c.pair_count.ensures, c.if-order-length.false)) _ _ refl c.find_by.ensures in
    let none = c.in_err-ok_or.ensures.ok_part in
    let value = rw none at c.in_err-ok_or.ensures.value in
    let is : p.0 ≡ Refusal.NoOrder = cc in
    rw (p.1, is) (rw none at replies).0

pub returns-in_err-ok_or-clause-order_after : goal.returns-in_err-ok_or-clause-order_after
returns-in_err-ok_or-clause-order_after c =
    (search_replies _ _ _ (sym c.in-Ok.ensures) (omega (arith, c.pair_count.ensures, c.if-order-length.false)) _ _ refl c.find_by.ensures).1

pub returns-clause-result_value : goal.returns-clause-result_value
returns-clause-result_value c =
    let replies = rw c.in_ok-ok_or.ensures.ok_part at (search_replies _ _ _ (sym c.in-Ok.ensures) (omega (arith, c.pair_count.ensures, c.if-order-length.false)) _ _ refl c.find_by.ensures) in
    ap (λ (k : ℕ). gives (7 + 2 * k)) c.pair_count.ensures ∙ replies.0

pub returns-clause-order_after : goal.returns-clause-order_after
returns-clause-order_after c =
    (search_replies _ _ _ (sym c.in-Ok.ensures) (omega (arith, c.pair_count.ensures, c.if-order-length.false)) _ _ refl c.find_by.ensures).1
