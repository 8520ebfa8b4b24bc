-- Canonical texts, and the law that they are read back.
pub mod Canonical
pub mod Laws
