-- The definitions and then the laws, in the order in which to read them.

-- what keeps are: pieces, how they are cut, and what a pass holds of them
pub mod Keeping
-- how the entries of a domain are preserved, and what is told of each
pub mod Preserving
-- what a later try puts back, and what is given up
pub mod Refilling
-- one try from a point on, how it is judged, and the tries that follow
pub mod Running
-- what the calls need of a machine and a pass
pub mod Fitting
-- laws: what is preserved is held, is what it should be, and is told as it is legal
pub mod KeepLaws
-- laws: what later tries put back, and what stays
pub mod TryLaws
