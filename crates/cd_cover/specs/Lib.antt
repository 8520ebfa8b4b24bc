-- The plan of a program. To be read in this order.

-- frames, links and targets; what is written on the way from a target; when a reference is stale
pub mod Links
-- what is refused of a program before it is planned, and in which order
pub mod Checks
-- what a plan is, and promises
pub mod Plans
-- what the call that plans answers
pub mod Results
-- the references of a subtree that lead out of it
pub mod Outer
-- laws: frames, links and the first flaw
pub mod Laws
-- laws: each reference of a plan has a link; what groups need
pub mod PlanLaws
-- laws: which entries are outer references, where their links stand, and that they are fresh
pub mod OuterLaws
-- laws: the words that links keep
pub mod KeptWords
-- law: a program has a first flaw, or none
pub mod There
-- what the code follows: a program with its footprints
pub mod Programs
-- the lesser of two places
pub mod Least
-- the way to a target, one domain at a time
pub mod Seeking
-- needs, kept in a list
pub mod Needs
-- what a walk over outer references has left
pub mod OuterLeft
