-- What the crate promises, and what carries it.
--
-- Every file and every room get 01's answer (`instrument`): the contract is an equation with the
-- definition `instrument` of specs/Answer.antt, and the room afterwards is the one it says.
--
-- About the definitions, for the crates above:
--   a file of version 2 can say it: 2,000 instructions, 32,768 bytes  `instrumented_good` in `Instrumenting`
--   what is written reads back as exactly that code, never 9 again    `wrote`, `new_file_reads`, `fits_again` in `ReadsBack`
--   each answer has its reason, and each reason its answer            `answered_because`, `answers` in `Answers`
--
-- How the code comes to it: the two passes over the code, one instruction at a time (`Turns`), each by the crate
-- `checks`; over the arrays that hold a routine they give its version 2
-- (`Stored`, `Matching`, `Version`); and at each return what is known is the reason for what is answered
-- (`Told`).
pub mod Inside
pub mod FileColors
pub mod Spans
pub mod Operands
pub mod Lengths
pub mod Instrumenting
pub mod Answers
pub mod ReadsBack
mod Turns
mod Stored
mod Matching
mod Version
mod Told
pub mod Guarded
