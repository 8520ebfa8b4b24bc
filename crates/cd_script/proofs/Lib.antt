mod Worked
pub mod Results
pub mod Views
pub mod Declared
pub mod Striking
pub mod Progress
pub mod OneAnswer
pub mod ThereLemmas
