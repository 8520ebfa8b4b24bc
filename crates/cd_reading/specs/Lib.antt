-- The one-thread reading, computed. To be read in this order.

-- what a run comes to: the counts and the cause
pub mod Through
-- a program and its script, with a table of the faults
pub mod Cases
-- the faults by domain and begin
pub mod Strikes
-- the ends of tries, domains and groups
pub mod Ends
-- the steps of a try, without events
pub mod Steps
-- what the walk follows
pub mod Walk
-- domains that need no walk
pub mod Plain
