-- The quadruples of a pair.
pub mod Scan  -- which of them its scan tests
