-- The definitions, in the order in which to read them.

-- places, the words that stand in them, patterns
pub mod Words
-- what is taken from a source and given to a sink, and counts of faults
pub mod Ends
-- sets of places as lists of ranges, and the least place of a set
pub mod Places
-- ends in memory, which fail at chosen calls
pub mod MemoryEnds
