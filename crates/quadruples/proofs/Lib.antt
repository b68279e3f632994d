-- Laws of the quadruples of a pair.
pub mod Scanned  -- lots and calls of a scan's book
pub mod Scanning  -- the quadruples of a pair, one after another
pub mod Testing  -- the test of one quadruple by the table of offsets
