pub mod Building
pub mod Feeding
pub mod Imaging
pub mod Keys
pub mod Listing
pub mod Looking
