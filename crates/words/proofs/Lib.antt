-- Laws of words, which the proofs of this crate and of the crates above cite.
pub mod Sets  -- the bits of words joined and cut, and of single numbers
pub mod Ends  -- the lowest and the highest number in a word
pub mod Changes  -- numbers taken out of a word and put into it
pub mod Lefts  -- a pair taken out of a list of words
pub mod OneByOne  -- the numbers of a word one by one
