-- What the crate promises, and what carries it.
--
-- Every file at every cursor gets 01's answer (`read_number`), every number its width (`number_width`) and its
-- one spelling (`write_number`). The contracts are equations with the definitions of specs/Number.antt; each
-- function's proof is in the folder of its name. The two loops go by `Reading` and `Writing`: what is left to
-- read answers, and what is left to write leaves, what the whole does.
--
-- For the crates above, in `Laws`:
--   what is written reads back, whatever stands around it            `reads_back`, `reads_written`
--   what reads as a number is what is written for it, byte for byte  `one_spelling`
--   a number that is read ends inside the file, behind its start     `read_bounds`
--   reading never looks past its number                              `read_prefix`
--   a refusal is 2 or 3, with 01's place                             `refusal_is_2_or_3`
--
-- The first four are one equivalence, by induction on the groups (`Outcome`): a number is read where, and only
-- where, its spelling stands.
mod Spelling
mod Reading
mod Outcome
mod Writing
pub mod Laws
