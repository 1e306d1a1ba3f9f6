-- Safety: what the crate promises, and what carries it.
--
-- On the definitions: an instruction is nothing to the classes, or an unsafe store with its set (Stores, stores).
--
-- In code: what an instruction is follows from its opcode number, whose range the code matches on (Natures).
pub mod Stores
pub mod Natures
