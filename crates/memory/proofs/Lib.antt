-- What the crate promises: every function on lent memory and table answers, and leaves in both, what
-- Lent says, for any lengths; at the exact lengths, and inside the bounds, that is what Memory says (Exact).
--     load, store, paint     Parts: what is read from a part, written or filled into it, stands in the whole
--     check                  Slots: four bytes touch at most two slots
pub mod Parts
pub mod Slots
pub mod Exact
pub mod Memory
