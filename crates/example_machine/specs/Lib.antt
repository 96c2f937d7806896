pub mod Building
pub mod Taking
pub mod Within
pub mod Calling
pub mod Excepting
pub mod Initialising
pub mod Patching
