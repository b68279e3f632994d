-- What is proved of the exports, apart from the code.
pub mod Stretches  -- where the costs of a lot stand in its book
