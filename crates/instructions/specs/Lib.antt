-- Moved is to be believed; Making is what the contract of `instr_of` cites.
pub mod Moved
pub mod Making
