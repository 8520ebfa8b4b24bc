mod Worked
pub mod SumLemmas
mod QuickLemmas
mod WrongLemmas
pub mod CutLemmas
pub mod LineLemmas
pub mod BlockLemmas
pub mod NameLemmas
pub mod WrittenLemmas
