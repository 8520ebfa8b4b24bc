pub mod TextLemmas
pub mod CountLemmas
pub mod RecordLemmas
mod Worked
