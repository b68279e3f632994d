-- Laws that the proofs of this crate and of the crates above cite.
pub mod Lists  -- sums and tests of a list in the words of the numbers below its length
pub mod States  -- one pair's step, on both sides of the bridge
pub mod Grid  -- the flow as a list
pub mod Writing  -- the flow and the sums
pub mod Ending  -- from what remains to the reply
pub mod Loading  -- the book and the amounts are read
