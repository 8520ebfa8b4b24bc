-- The generated document.
pub mod Making
