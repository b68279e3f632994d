-- What is proved of the answers for C, apart from the code.
pub mod Signs  -- a cost as 64 bits, and read back
pub mod Examples  -- each verdict and a cost below zero, by examples
