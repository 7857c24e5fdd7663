pub mod Lines
pub mod Cached
pub mod Steps
pub mod Chains
pub mod Syncs
pub mod Did
pub mod Made
pub mod Holding
