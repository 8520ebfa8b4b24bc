pub mod FeetLemmas
pub mod GatherLemmas
pub mod OverlapLemmas
pub mod SideLemmas
pub mod OneAnswer
pub mod BoundedLemmas
pub mod ThereLemmas
mod Worked
pub mod ClearLemmas
