-- The cost of a pair, and where a book holds its costs.
pub mod Pairs  -- what the answer of `pair_cost` states; the offset of each cost
pub mod Table  -- the problem that a book and a table of offsets state
