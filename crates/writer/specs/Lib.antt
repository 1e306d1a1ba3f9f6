-- The contract of `writer` cites `files` alone: what is written is said where what is read is.
pub mod Inside
