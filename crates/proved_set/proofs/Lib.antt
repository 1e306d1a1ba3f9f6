-- Promises nothing to other crates. `Examples.proved_set` holds the definitions of every layer to the
-- checked examples 1 to 12: each row of the table in specs/Examples.antt, by computation.
pub mod Examples
