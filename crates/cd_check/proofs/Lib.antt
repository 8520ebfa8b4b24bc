pub mod OneRefusal
pub mod Versions
pub mod ThereLemmas
