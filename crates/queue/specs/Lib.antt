pub mod Faults
pub mod Handing
pub mod Opening
pub mod Formatting
