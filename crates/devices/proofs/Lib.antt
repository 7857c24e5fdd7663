pub mod Marking
pub mod Calls
pub mod Doing
pub mod Cutting
pub mod Sectors
