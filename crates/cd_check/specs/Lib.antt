-- The static checks of a document. To be read in this order.

-- the questions, the first refusal, and when a document passes
pub mod Checking
-- laws: a document has one first refusal and one script
pub mod Laws
-- and each document is judged
pub mod There
