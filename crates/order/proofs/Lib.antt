-- The mathematics of the check, apart from its code.
pub mod Arrays  -- an array of 32 by 32 entries that holds places, cleared and after a store
pub mod Noting  -- the places of the pairs of an order file
pub mod Turns  -- one turn of the walk that notes places
pub mod Failing  -- where an order first fails
pub mod Checks  -- what a check knows of its book
pub mod Settling  -- what the walk and the scan say together
pub mod Agreeing  -- past the tests of the files the check is that of the pairs
