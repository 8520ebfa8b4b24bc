-- The states of domains, in the order in which to read them.
-- a state as contracts see it
pub mod StateModel
-- what a call needs of it
pub mod Fits
-- what a domain was sent with, and what its keeps say of that
pub mod Tasks
-- where it stands
pub mod Stands
-- the same as plain data, and the ask of a member
pub mod Asks
-- what the calls do, exactly
pub mod Advancing
pub mod Resuming
pub mod Steps
-- before, in and after the tries of an advance; how members are taken back
pub mod Trying
-- the laws
pub mod StateLaws
pub mod LawsBelow
pub mod TakingBack
-- what stays, how it goes on, and what members are when they come back
pub mod Returning
-- what an advance does not pass over
pub mod Bounds
-- what a run comes to
pub mod Running
