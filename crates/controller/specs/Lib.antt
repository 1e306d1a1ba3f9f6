-- What the controller's one entry point promises, in the words of the plain rule alone; and what has to be
-- proved of it.
pub mod Control
pub mod TableAfter
pub mod Demands
