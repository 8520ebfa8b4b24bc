pub mod WriteLemmas
pub mod CallLemmas
pub mod ToldLemmas
pub mod LegalLemmas
pub mod RunLemmas
pub mod PartLemmas
pub mod EndLemmas
pub mod DueLemmas
pub mod ThereLemmas
pub mod HeadlineLemmas
pub mod CountLemmas
pub mod LiftedLemmas
mod Worked
