-- What `stops` promises, and which law carries it.
--   Places           the place of a stop: what is counted is what the definition counts
pub mod Places
