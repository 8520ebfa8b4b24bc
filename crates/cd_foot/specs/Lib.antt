-- What a domain touches, and which siblings interfere. To be read in this order.

-- footprints: three sets of places a domain
pub mod Feet
-- which two siblings interfere first, and where
pub mod Overlaps
-- laws of overlaps
pub mod Laws
-- sets with a bound, which have a least place; each program has a first overlap, or none
pub mod Bounded
-- what the code gathers a footprint from
pub mod Gathered
-- what the code compares, item by item
pub mod Siblings
-- members that a pass shows to be apart
pub mod Clear
