-- The definitions and then the laws, in the order in which to read them.

-- the most that is taken of anything
pub mod Limits
-- sets of kinds as numbers
pub mod KindSets
-- what the twelve operations compute, and their shapes
pub mod Operations
-- the nested view of a list of domains, on which all else recurses
pub mod Domains
-- what a program is
pub mod TreeModel
-- the parts of that for which a test asks together
pub mod Parts
-- subtrees as slices of the list
pub mod Slices
-- where a child stands in its parent's groups
pub mod Groups
-- paths as texts
pub mod Paths
-- reads, writes, words after a domain in which nothing fails, disjoint siblings, coverage, need
pub mod Meaning
-- fault scripts: which entries strike where, and which scripts are accepted
pub mod Scripts
-- the first refusal, by questions in an order
pub mod Refusals
-- the one-thread reading: tries, begins, events, ending
pub mod Reading
-- the record and the cause of a whole program
pub mod Record
-- where a domain stands at a point of a try, with what is left of its reading
pub mod Fronts
-- records that tell more than the reading, and are a run's all the same
pub mod Legal
-- the laws on strikes, leaks, paths, coverage and words
pub mod Laws
-- subtrees are slices, and children stand once
pub mod SliceLaws
-- what a meaning sees and changes
pub mod Locality
-- the words between the items of a body
pub mod FirstItems
-- the words after a group, from what its members give
pub mod Absorbing
-- how counts go through a reading
pub mod CountLaws
-- counts under accepted scripts are small
pub mod AcceptedLaws
-- a record has no more events than its program and its script allow
pub mod RecordLengths
-- when a domain begins again
pub mod Begins
-- fronts go on to each other, and each arrival is one
pub mod FrontLaws
-- legal records go together
pub mod LegalLaws
