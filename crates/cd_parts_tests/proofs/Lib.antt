pub mod OneRegionLemmas
pub mod TextLemmas
pub mod TrialLemmas
pub mod TurnLemmas
