-- What the crate promises, and what carries it.
--
-- A reader holds a file and a place. It is opened at 0 (`open`), put behind what was read (`after`), and asked for
-- the next number (`number`), for any file and any place. What it answers is what the function on the bytes and
-- the place answers, so `read_at` promises what `numbers::read_number` does, and a crate above may call the one
-- for the other. Each function is proved with no file of its own. What a reader owns, and how it is taken apart and
-- put together, stands in `Held` as laws of the logic.
pub mod Held
