pub mod BoolLemmas
pub mod PlaceLemmas
pub mod ListLemmas
pub mod EndLemmas
pub mod RangeLemmas
pub mod LeastLemmas
pub mod UnionLemmas
mod RangeCases
pub mod SortLemmas
