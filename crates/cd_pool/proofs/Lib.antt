pub mod Passing
pub mod CountLemmas
