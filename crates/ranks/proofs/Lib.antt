-- Laws of ranks that are guessed and checked.
pub mod Laws  -- from what was checked to a problem that is Monge by ranks
