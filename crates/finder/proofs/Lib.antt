-- Laws of the finder's answer, which the functions' proofs cite.
pub mod Writes  -- the bytes of an order file
pub mod Books  -- a book's reply and the order file of what is found
