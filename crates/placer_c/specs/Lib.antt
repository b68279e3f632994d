-- What a call hands back to C, apart from its reply.
pub mod Stretches  -- a stretch of the book, in two numbers
pub mod Version  -- the version, in one number
