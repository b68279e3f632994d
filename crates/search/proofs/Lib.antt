-- Laws that the functions' proofs cite.
pub mod Trials  -- marks put, and the lots and calls that are asked in turn
pub mod Releasing  -- the marks with one call taken back
pub mod Unmarking  -- the marks that may be gone with a pair taken back
pub mod Taken  -- what is kept once a pair is taken
pub mod Passing  -- a pair that passes is free in the problem
pub mod First  -- what is kept at first
