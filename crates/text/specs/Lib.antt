-- What the functions of the printed text promise.
pub mod Lengths  -- how many bytes each piece has at most
pub mod Rendering  -- the room in a text, and rendering an answer
