-- Lots and calls as lines of what is left, by ranks.
pub mod Lines  -- the lines and their ends, how one is set, and what stays of the ends when a pair is lost
