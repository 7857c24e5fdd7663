pub mod Seeing
pub mod Means
pub mod Ranging
pub mod Sinking
pub mod Passing
pub mod Fresh
pub mod Holding
