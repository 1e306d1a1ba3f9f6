-- Coloring: what the crate promises, and what carries it.
--
-- On the definitions, for every list of sets:
-- - two objects are of one computed class exactly when a chain joins them (Chains, class_is_chain);
-- - 01's colors are legal, no legal coloring tells more objects apart, and equal colors above 0 mean a
--   chain (Colors, coloring_is_legal, none_finer, colors_keep);
-- - they are numbered in the order of the lowest objects, and no other numbers are so (Order,
--   colors_in_order, one_coloring).
--
-- In code: read_colored answers 01's coloring of what was read, or its refusal, which is 8 exactly for more
-- than 254 classes. The functions compute on arrays what specs/Labels says, turn by turn (Turns). That this
-- is the coloring is said by Agrees (colors, counted) and Answer (few_classes, many_classes): each step of the computation joins only what the sets
-- chain and parts nothing (Joining, Spans, Marking), labels become colors (Labelled), and the arrays hold all
-- of a routine that was read (Bounds, Arrays). Answer ties it to the reading.
pub mod Members
pub mod Chains
pub mod Colors
pub mod Order
pub mod Tinted
pub mod Turns
pub mod Numbered
pub mod Joining
pub mod Spans
pub mod Marking
pub mod Labelled
pub mod Bounds
pub mod Arrays
pub mod Agrees
pub mod Answer
