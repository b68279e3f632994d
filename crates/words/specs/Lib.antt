-- What a word has, and what it has after a change.
pub mod Words  -- the lowest and the highest number, the numbers of one word without another's or of either, one number taken out or put in
pub mod Lefts  -- pairs that are left, as a list of words
pub mod Numbers  -- the numbers of a word one by one
