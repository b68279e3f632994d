-- Laws that the proofs of this crate and of the crates above cite.
pub mod Rows  -- one step of the reading, and where a row starts
pub mod Readable  -- what a caller learns from the answer of `read_book`
pub mod Entering  -- the table of offsets as one lot's calls are entered
pub mod Filled  -- the table as lot after lot is entered
pub mod Offsets  -- what an entry of the table says of its pair
pub mod Tables  -- the whole table: it states the book's own problem
pub mod Counted  -- the count of eligible pairs by the book's length
pub mod Examples  -- the answers of `pair_cost`, computed
