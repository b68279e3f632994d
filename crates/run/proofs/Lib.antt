-- The mathematics of a run, apart from its code.
pub mod Listing  -- the pairs of an order file, one after another
pub mod Steps  -- the loop's progress
pub mod Whole  -- from the loop's end to the reply
pub mod Supplied  -- what the entry points hand to the run
