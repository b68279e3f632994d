-- The walk of least gaps.
pub mod Places  -- the pairs of an order file by place
pub mod Gaps  -- the gaps between calls that the walk keeps
pub mod Walk  -- what the walk's functions ask, and what their answers say
