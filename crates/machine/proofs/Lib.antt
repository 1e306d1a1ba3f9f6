pub mod Steps
pub mod Effects
pub mod Turns
pub mod Landing
pub mod Going
pub mod Temporaries
pub mod Agreeing
pub mod Loading
