-- Whether a pair is free, by the slacks and what is left.
pub mod Testing  -- when a pair passes, what hinders it, and the tests of one lot
pub mod Tables  -- what is searched
pub mod Left  -- what is left of it, and what a trial answers
