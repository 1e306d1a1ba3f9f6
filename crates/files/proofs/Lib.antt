-- What `files` promises, and what carries it.
--
-- Any bytes are read as version 1 or 2: the whole program, or the first refusal from left to right
-- (`read_routine`, `read_program`: equations with `held (read_file ..)`).
--
-- About the definitions, for the crates above: what is written for a good program is read back as exactly
-- that program (`RoundTrip.reads_back`); what is read is a good program and the file is byte for byte its
-- spelling (`RoundTrip.one_spelling`), so a program has one spelling; both for each version by one law,
-- number by number, object by object, list by list (`SpelledNumbers`, `SpelledObjects`,
-- `SpelledInstructions`, `SpelledLists`). What an instruction of a good routine names is there
-- (`GoodInstructions.names`).
--
-- How the code comes to it: what judging a number answers (`Judging`), and what a part's answer says (`Answered`);
-- one instruction (`OneInstr`); the loop over things (`Loop`), and those over members and sets (`MemberLoop`,
-- `SetLoop`); arrays of which the first elements count (`Filled`); two tests at once, and a test of every element
-- (`Tests`); reading part after part is reading by the plan (`Following`), and so for the stages of a file (`Stages`).
pub mod Tests
pub mod Filled
mod Answered
mod Judging
mod Loop
mod OneInstr
mod MemberLoop
mod SetLoop
pub mod Following
mod Stages
pub mod SpelledNumbers
pub mod SpelledObjects
pub mod SpelledInstructions
pub mod GoodInstructions
pub mod SpelledLists
pub mod RoundTrip
