-- Laws that the proofs of this crate and of the crates above cite.
pub mod Bits  -- a word of 32 bits: shifts, and the count of set bits below a bit
pub mod Costs  -- one step of the reading of a row's costs
