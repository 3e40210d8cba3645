-- Cited by other crates, private functions and proofs, and by no contract of the program or of a library.
pub mod Entries
pub mod Fixes
pub mod Headers
pub mod Order
pub mod NamesJudged
pub mod Marks
pub mod References
pub mod Judging
-- What the judgement alone rests on.
pub mod States
-- What proofs of walks speak of.
pub mod Cursors
pub mod Views
