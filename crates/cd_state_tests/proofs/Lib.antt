pub mod SampleLemmas
pub mod BoardLemmas
pub mod GroupLemmas
pub mod ClaimLemmas
