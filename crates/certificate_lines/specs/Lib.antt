pub mod LineTexts
pub mod LineOrder
pub mod Told
