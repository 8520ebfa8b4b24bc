-- What the contracts of this crate cite. To read first: Deeds, Outcomes, Calls, Due, Headline.
pub mod Running
pub mod Parting
pub mod Deeds
pub mod Outcomes
pub mod Calls
pub mod Parts
pub mod Due
pub mod Headline
pub mod Codes
pub mod Lifted
