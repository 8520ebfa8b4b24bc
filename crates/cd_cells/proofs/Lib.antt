-- Lists, sums over views, places, what a step leaves of each part of the rule; then each kind of step, the laws, the opening, and steps
-- in a row.
pub mod Listed
pub mod Sums
pub mod Placed
pub mod Framing
pub mod Moving
pub mod Sending
pub mod Resting
pub mod Arriving
pub mod Ending
pub mod Emptying
pub mod Resuming
pub mod Closing
pub mod Handing
pub mod Parting
pub mod Following
pub mod Beginning
pub mod Rows
pub mod SendLemmas
pub mod Gathered
pub mod HandLemmas
pub mod PassLemmas
pub mod RunLemmas
pub mod Siblings
pub mod StatesLawful
pub mod TurnLemmas
