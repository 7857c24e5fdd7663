pub mod Layout
pub mod Bytes
pub mod Ring
pub mod Headers
pub mod Reading
pub mod Walking
pub mod Holding
pub mod Steps
