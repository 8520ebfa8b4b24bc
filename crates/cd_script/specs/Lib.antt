-- Which scripts are accepted. To be read in this order.

-- fault by fault: its path, its point, its place, its kind
pub mod Acceptance
-- laws: a script has one answer, and kinds have no part in it
pub mod Laws
-- and it has an answer
pub mod There
