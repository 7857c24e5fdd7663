pub mod Marks
pub mod Devices
pub mod Rules
pub mod Mounts
pub mod Image
pub mod Sector
pub mod Keeping
