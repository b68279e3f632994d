-- The ticket panel's search.
pub mod Search  -- which pair is next, and what is given once all are taken
