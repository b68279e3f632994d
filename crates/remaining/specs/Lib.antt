-- What remains while an order is run, and what is replied and written.
pub mod States  -- the states of GREEDY in the arrays
pub mod Replies  -- the reply by what remains, and the flow and the sums
