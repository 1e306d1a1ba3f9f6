-- What `writer` promises, and what carries it.
--
-- Any held value is written as a file of version 2, or answered `TooSmall` or `NoProgram` with no byte
-- changed (`write_program`: equations with `written_in` and `room_with` of files/specs/Held.antt). That what
-- is written reads back is a law of those definitions, in `files` (RoundTrip).
--
-- How the code comes to it: the first pass adds up lengths and stops at the first part that no file says
-- (`Lengths`); the second puts number after number, each behind what is put so far (`Putting`).
mod Lengths
mod Putting
