-- The search for an order over a table of slacks.
pub mod Marks  -- the marks of hindered pairs, and all that the search keeps
pub mod Steps  -- what its steps answer and change
