-- What the crate promises: every function on lent memory and table answers, and leaves in both, what
-- Lent says, for any lengths; at the exact lengths that is what Heap says (Exact).
--     alloc     Walks (the loop over the headers), Fits (what it finds is what the definition takes)
--     free      Walks, Lives (what the loop finds is what the definition frees)
pub mod Exact
pub mod Walks
pub mod Fits
pub mod Lives
