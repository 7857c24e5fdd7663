pub mod Refusals
pub mod Reads
pub mod Headers
pub mod Surveys
pub mod Erasing
pub mod Held
