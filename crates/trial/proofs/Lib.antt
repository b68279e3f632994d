-- Laws of the trial of a pair.
pub mod Lefts  -- what is left, in the table
pub mod Asking  -- the lots that are asked about a pair
pub mod Cornering  -- two corners decide, by ranks
