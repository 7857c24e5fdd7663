pub mod Writes
pub mod Elements
pub mod Appends
pub mod Copies
pub mod Grows
pub mod Refusals
pub mod Adds
