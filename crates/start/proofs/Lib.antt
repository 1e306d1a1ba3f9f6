-- What `start` promises, and which law carries it.
--   Starting         the table that is painted object by object is the first table; `starts_first` says of a
--                    program what its start answers and leaves
pub mod Starting
