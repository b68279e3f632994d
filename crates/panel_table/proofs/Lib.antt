-- Laws of the ticket panel's table, apart from its code.
pub mod Entering  -- a book's slacks, entered lot by lot
pub mod LeastGaps  -- the calls at which gaps are least, passed one by one
