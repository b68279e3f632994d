-- What the ticket panel's table and words hold.
pub mod Filling  -- the slacks of a book of at most eight by eight
pub mod Gaps  -- the calls at which the gap of a lot over another is least
