pub mod Roots
pub mod Relations
pub mod Laws
