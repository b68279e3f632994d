-- Words of a row.
pub mod Words  -- set bits below a bit, and the lowest from a bit on
