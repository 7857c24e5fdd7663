pub mod Bytes
pub mod Calls
