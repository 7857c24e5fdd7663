pub mod Lists
pub mod Marks
pub mod Arriving
pub mod Storing
pub mod Sectors
pub mod Layers
pub mod Answering
pub mod Traces
