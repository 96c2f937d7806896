mod TakenClasses
pub mod FirstTaking
