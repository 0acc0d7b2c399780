pub mod Lengths
pub mod Outers
pub mod Gathering
pub mod ReadBack
pub mod Ends
