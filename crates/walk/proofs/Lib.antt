-- The mathematics of the walk, apart from its code.
pub mod Eligibles  -- what a table's entry says of a pair
pub mod Placing  -- the pairs of an order file from a place on
pub mod Arrays  -- an array of 32 by 32 entries after a store
pub mod Lowering  -- least gaps lowered over one call after another, and in the turn of a pair
pub mod Walking  -- one turn of the walk
