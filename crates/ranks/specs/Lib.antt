-- Lots and calls numbered by ranks.
pub mod Numbered  -- what `rank` answers, what it checks, and the table that it fills
