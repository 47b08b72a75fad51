-- `Grammar` says what a line of the script means, `Answers` what is written, `Reasons` why a line is answered `?`, `Names` how messages call it.
-- `Fields` has what only private functions' contracts cite.
pub mod Grammar
pub mod Answers
pub mod Fields
pub mod Reasons
pub mod Names
