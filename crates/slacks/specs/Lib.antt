-- The problem that a table of slacks states, how it is filled, and what a search of it answers.
pub mod Slacks  -- slacks, and the problem of a table of them
pub mod Filling  -- a table of slacks filled from the book's rows
pub mod Found  -- the pairs that are found, as bytes
