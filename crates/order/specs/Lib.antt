-- The check of an order.
pub mod Noted  -- the places of the pairs before a place, and arrays of places
pub mod Answers  -- what their answers say
