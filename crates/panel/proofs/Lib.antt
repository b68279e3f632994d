-- Laws of the ticket panel's search, apart from its code.
pub mod Freeing  -- free by the words is free in the problem
pub mod Words  -- the lots that have no free pair, and the marks of the pairs taken
pub mod Taking  -- a turn of the search, and what all of them come to
pub mod Placing  -- finding and running once the files are read
