pub mod Supplied
pub mod Offsets
pub mod Methods
pub mod OneAnswer
