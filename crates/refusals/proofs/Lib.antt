-- What the crate promises, and what carries it. No code is involved: the theorems are about the
-- definitions of the crates below.
--
--   Refused     refused-why: a file that is not read is refused for one of the reasons of specs/Why
--   Places      listed: a reason gives the number, 1 to 7, and where its place is; named: and a cause that 01 has
--
-- What carries them:
--   Numbers     told: a number is read, or the file ends inside one, or an end up to which the bytes are
--               the beginning of none; begins-none: no number begins with them
--   Agreeing    files that have the same bytes up to an end
pub mod Agreeing
pub mod Numbers
pub mod Refused
pub mod Places
