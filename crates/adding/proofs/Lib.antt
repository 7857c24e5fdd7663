pub mod Going
pub mod Laying
pub mod Ends
pub mod Placing
pub mod Appending
pub mod Copying
pub mod Growing
pub mod Fitting
