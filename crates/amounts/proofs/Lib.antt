-- Laws that the proofs of this crate cite.
pub mod Reserves  -- the reserve of a lot, by whether the file carries reserves
pub mod Reading  -- amounts as 32-bit numbers, reserves of which there are none, and what `all` answers
