-- What is proved of the printed text apart from its code.
pub mod Decimals  -- the digits of a number
pub mod Lines  -- the lines of the pairs
pub mod Zeros  -- the zeros after a text
