-- What a call hands back to C.
pub mod Answers  -- each reply in six numbers
pub mod Signed  -- what C reads of a cost
