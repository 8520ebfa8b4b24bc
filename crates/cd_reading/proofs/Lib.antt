pub mod KindLemmas
pub mod StruckLemmas
pub mod Quiet
pub mod Rises
pub mod Walking
pub mod Following
pub mod Whole
pub mod StillLemmas
