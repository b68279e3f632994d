-- What is searched, and what the finder answers and writes.
pub mod Searched  -- the book's problem, or the enlarged one
pub mod Writing  -- the order file that is written
