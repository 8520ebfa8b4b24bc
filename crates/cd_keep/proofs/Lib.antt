pub mod LayerLemmas
pub mod KnownLemmas
pub mod HoldLemmas
mod Worked
