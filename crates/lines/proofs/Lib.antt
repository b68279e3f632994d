-- Laws of the lines, which the proofs of this crate cite.
pub mod Laws  -- a line that is set, the lines at first, and the lines after a pair is lost
