pub mod WordLemmas
pub mod RowLemmas
pub mod StepLemmas
pub mod ReadLemmas
pub mod ParseLemmas
pub mod HyphenLemmas
mod Worked
