-- The problem that is searched (document 02, request 2).
use Rattle.std.specs.Prelude.{Bool, cond, List, ℕ}
use Rattle.transport.specs.Problem.{Problem}
use Rattle.specification.specs.Book.{problem_of}
use Rattle.specification.specs.Idle.{enlarged}

-- the book's, or that of the enlarged book
abbrev pub searched : Bool → List ℕ → Problem
searched idle book = cond idle (enlarged book) (problem_of book)
