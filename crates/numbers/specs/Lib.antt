-- What the contracts of `numbers` cite.
pub mod Number
pub mod Refusals
