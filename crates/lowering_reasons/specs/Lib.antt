pub mod Reasons
pub mod Judgements
pub mod Named
pub mod Looked
