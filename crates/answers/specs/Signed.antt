-- What C reads of a cost (document 02, request 4): "The cost of one pair and the cost of a run become signed for every caller".
use Rattle.std.specs.Prelude.{◌≡◌, List, ℕ, ℤ, get_or}
use Rattle.std.specs.Int.{w64}
use Rattle.std.proofs.Common.{to_z}
use Rattle.specification.specs.Reply.{gives, Outcome}
use Rattle.specification.specs.Book.{costs, pair_cost}
use Rattle.specification.specs.Run.{run_order}
use Rattle.specification.specs.Find.{find_and_run}
use Rattle.specification.specs.Idle.{find_and_run_idle}
use Rattle.specification.specs.Panel.{find_and_run_panel}
use Rattle.answers.specs.declared.Answer.{Answer}
use Rattle.answers.specs.Answers.{answer_of, cost_of, placed}

-- `(int64_t)r.values[1]`: the second value, as the machine reads 64 bits with a sign
abbrev pub cost_read : Answer → ℤ
cost_read r = to_z w64 (get_or r.values 1 0)

-- it is the cost
pub record SignedForC : Type 0 where
  -- of one pair
  pub pair : (book : List ℕ) (lot call : ℕ) (cost : ℤ) → pair_cost book lot call ≡ gives (costs cost)
      → cost_read (answer_of cost_of (pair_cost book lot call)) ≡ cost
  -- of a run
  pub run : (book order amounts flow : List ℕ) (o : Outcome) → run_order book order amounts flow ≡ gives o
      → cost_read (answer_of placed (run_order book order amounts flow)) ≡ o.cost
  pub by_find_and_run : (book amounts flow : List ℕ) (o : Outcome) → find_and_run book amounts flow ≡ gives o
      → cost_read (answer_of placed (find_and_run book amounts flow)) ≡ o.cost
  pub by_find_and_run_idle : (book amounts flow : List ℕ) (o : Outcome) → find_and_run_idle book amounts flow ≡ gives o
      → cost_read (answer_of placed (find_and_run_idle book amounts flow)) ≡ o.cost
  pub by_find_and_run_panel : (book amounts flow : List ℕ) (o : Outcome) → find_and_run_panel book amounts flow ≡ gives o
      → cost_read (answer_of placed (find_and_run_panel book amounts flow)) ≡ o.cost
