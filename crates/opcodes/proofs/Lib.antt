-- What `opcodes` promises, and what carries it.
--
-- Each function is an equation with a definition of the table or of the ranges, for every number that it can be
-- given; nothing is asked of a caller. The constant table of the code is the definition's, row by row
-- (`table.row_of`).
--
-- About the definitions, for the crates above: what a number that passes a test lies between or names (`Bounds`); what holds
-- of each operand (`Operands`).
pub mod Bounds
pub mod Operands
