-- Laws that the functions' proofs, and those of the crates above, cite.
pub mod BySlacks  -- the problem of a table of slacks
pub mod Filled  -- the slacks of a book state its problem
pub mod Entering  -- the table of slacks that a book's rows make
pub mod Idle  -- the idle call's slacks
pub mod Going  -- a search from turn to turn, over any set of what remains
