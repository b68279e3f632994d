-- What is proved of finding and running in one call, and of the printed text, apart from their code.
pub mod Found  -- what the search leaves is the file of the order found
pub mod Placing  -- finding and running past the files' refusals, and the entry points as that
pub mod Printing  -- what is rendered of the answer is the printed text
