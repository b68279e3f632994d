-- What finding and running in one call asks and ensures past the files' refusals, and what the printed text is.
pub mod Placing  -- the reply and the flow, by the problem that is searched
