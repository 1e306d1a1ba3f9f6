-- What `instructions` promises, and what carries it.
--
-- Both functions are equations with definitions, for every number that they can be given; nothing is asked of a
-- caller.
--
-- About the definitions, for the crates above: an instruction and its parts are two forms of one thing
-- (`Parting.parts_make`, `Parting.make_parts`); two functions of an instruction that give the same for each opcode
-- are equal (`Tables.agree`); an instruction of version 2 asks what its instruction asks, but for target and set
-- (`Moving.view_moved`); and operands in their ranges are held whole (`Whole.made_whole`).
pub mod Parting
pub mod Tables
pub mod Moving
pub mod Whole
