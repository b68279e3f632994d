-- What finding an order says: the book is readable, the buffer is long enough, and the order written is the finder's. Read back it
-- passes the check, since the finder's order is an order of the eligible pairs and a Monge sequence. Where it replies 13 there is no order.
use mathlib.Core.Path.{◌≡◌, refl, ◌∙◌, ap}
use mathlib.Core.List.{List, [], ◌++◌}
use mathlib.Core.Option.{Option, some, none}
use Prim.Native.Nat.{ℕ, ◌≤◌, ◌<◌}
use native.Mathlib.Omega.{arith}
use lib.Dec.{ltb, ltb→lt, nltb→le, lit≤}
use lib.ListN.{length, take, drop, length-append, length-drop}
use lib.IntN.{ℤ}
use Rattle.transport.specs.Problem.{Problem}
use Rattle.transport.specs.Greedy.{Pair}
use Rattle.transport.specs.Signed.{Lifts}
use Rattle.transport.specs.Finder.{find, size}
use Rattle.transport.proofs.Orders.Length.{order_length_lem}
use Rattle.transport.proofs.Greedy.Optimal.{good_of_monge}
use Rattle.transport.proofs.Greedy.Converse.{monge_of_good}
use Rattle.transport.proofs.Greedy.Signed.{signed_good}
use Rattle.transport.proofs.Finder.Find.{find_is_order, find_is_monge, find_none}
use Rattle.specification.specs.Reply.{gives, refuses}
use Rattle.specification.specs.Book.{read_book, problem_of}
use Rattle.specification.specs.OrderFile.{order_file}
use Rattle.specification.specs.Find.{order_length, order_or13, found_order, find_order, find_buffer}
use Rattle.specification.specs.Demands.{Readable, Passing, returned, GoodOrder}
use Rattle.specification.proofs.Replies.{
  Says,
  giving,
  refusing,
  said_of_given,
  gives_less,
  says_known,
  says_then,
  says_unless,
  says_afterwards,
}
use Rattle.specification.proofs.Books.{book_monge, BookRefused, book_says}
use Rattle.specification.proofs.OrderFiles.{
  order_back,
  order_file_length,
  order_file_shaped,
  order_file_taken,
}

-- what is found is a good order, and where nothing is found there is none, by costs of which the problem's are lifted
module _ {base : ℕ} {P : Problem} {c : ℕ → ℕ → ℤ} (lifts : Lifts base P c) where
  pub found_is_good : (S : List Pair) → find P ≡ some S → GoodOrder P c S
  found_is_good S found =
      let order = find_is_order P S found in
      (order, (signed_good lifts _ S).1 (good_of_monge order (find_is_monge P S found) _))

  pub none_is_good : find P ≡ none → (S : List Pair) → GoodOrder P c S → ⊥
  none_is_good found S (order, good) = find_none P found S order (monge_of_good _ P S order ((signed_good lifts _ S).0 good) (lit≤ tt))

-- the finder's answer, or 13
pub or_13_says : (P : Problem) {Q : ℕ → List ℕ → Type 0} → (find P ≡ none → Q 13 []) → Says (λ S. find P ≡ some S) Q (order_or13 P)
or_13_says P {Q} never = by_answer (find P) refl
  where
    by_answer : (o : Option (List Pair)) → find P ≡ o → Says (λ S. find P ≡ some S) Q (elim o [ none ↦ refuses 13 [] | some S ↦ gives S ])
    by_answer none e = refusing (never e)
    by_answer (some S) e = giving e

pub data FindRefused (book buffer : List ℕ) : ℕ → List ℕ → Type 0 where
  of_book : {k : ℕ} {vs : List ℕ} → BookRefused book k vs → read_book book ≡ refuses k vs → FindRefused book buffer k vs
  buffer_too_short : Readable book → length buffer < order_length book → FindRefused book buffer 17 []
  without_order : Readable book → order_length book ≤ length buffer → find (problem_of book) ≡ none → FindRefused book buffer 13 []

-- the finder's order, from a readable book into a buffer that is long enough
pub record FindGave (book buffer : List ℕ) (S : List Pair) : Type 0 where
  pub readable : Readable book
  pub long : order_length book ≤ length buffer
  pub found : find (problem_of book) ≡ some S

pub found_says : (book buffer : List ℕ) → Says (FindGave book buffer) (FindRefused book buffer) (found_order book buffer)
unfolding found_order
found_says book buffer =
    says_then _ (says_known (book_says book)) (λ k vs (q, e). of_book q e) (λ n (read, reads).
    says_unless (ltb (length buffer) (order_length book)) 17 _ _ (λ t. buffer_too_short (n, reads) (ltb→lt _ _ t)) (λ long.
    let enough = nltb→le (length buffer) (order_length book) long in
    gives_less (or_13_says (problem_of book) (without_order (n, reads) enough))
    (λ S found. record { readable = (n, reads); long = enough; found = found })))

pub find_says : (book buffer : List ℕ)
    → Says (λ n. (n ≡ order_length book) × (S : List Pair) × FindGave book buffer S × (found_order book buffer ≡ gives S))
    (FindRefused book buffer) (find_order book buffer)
unfolding find_order
find_says book buffer =
    says_then _ (says_known (found_says book buffer)) (λ k vs q. q.0) (λ S (gave, it). giving (refl, S, gave, it))

-- the file of the finder's order passes the check
pub found_passes : (book : List ℕ) (S : List Pair) → Readable book → find (problem_of book) ≡ some S → Passing book (order_file S)
found_passes book S readable found = record {
  readable = readable;
  shaped = order_file_shaped S;
  each_once = rw (order_back S) (find_is_order (problem_of book) S found);
  monge = rw (order_back S) ((book_monge book readable S).1 (find_is_monge (problem_of book) S found));
}

-- the order buffer keeps its length
pub length_find_buffer : (book buffer : List ℕ) → length (find_buffer book buffer) ≡ length buffer
unfolding find_buffer
length_find_buffer book buffer = says_afterwards buffer _ (λ s. length s ≡ length buffer) (found_says book buffer) refl (λ S gave. omega (
  arith,
  length-append (order_file S) (drop (order_length book) buffer),
  length-drop (order_length book) buffer,
  order_file_length S,
  order_length_lem (find_is_order (problem_of book) S gave.found),
  gave.long,
))

-- what is left in the buffer where a length is replied: the file of the finder's order up to that length, and the old bytes after it;
-- so the returned order is that file
pub record Written (book buffer : List ℕ) (n : ℕ) : Type 0 where
  pub order : List Pair
  pub gave : FindGave book buffer order
  pub its_length : n ≡ order_length book
  pub contents : find_buffer book buffer ≡ order_file order ++ drop (order_length book) buffer
  pub file : returned book buffer ≡ order_file order

contents_of : (book buffer : List ℕ) (S : List Pair) → found_order book buffer ≡ gives S
    → find_buffer book buffer ≡ order_file S ++ drop (order_length book) buffer
unfolding find_buffer
contents_of book buffer S it = rw it refl

file_of : (book buffer : List ℕ) (S : List Pair) → find (problem_of book) ≡ some S
    → take (order_length book) (order_file S ++ drop (order_length book) buffer) ≡ order_file S
file_of book buffer S found =
    order_file_taken S (size (problem_of book)) (drop (order_length book) buffer) (order_length_lem (find_is_order (problem_of book) S found))

pub written : (book buffer : List ℕ) (n : ℕ) → find_order book buffer ≡ gives n → Written book buffer n
written book buffer n e =
    let (long, S, gave, it) = said_of_given (find_says book buffer) n e in
    let contents = contents_of book buffer S it in
    record {
      order = S;
      gave = gave;
      its_length = long;
      contents = contents;
      file = ap (take (order_length book)) contents ∙ file_of book buffer S gave.found;
    }
