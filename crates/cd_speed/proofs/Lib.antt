pub mod Timed
pub mod Handed
pub mod GroupedLawful
