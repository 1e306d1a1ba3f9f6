-- What is proved of the definitions:
--   Layouts   colors that are 0 on the safe objects alone lay a routine out as it is laid out without any
--             (`pieces_same`), 01's own among them (`own_fit`)
--   Stages    what a routine that reads is answered: accepted, 8 or 9
pub mod Layouts
pub mod Stages
