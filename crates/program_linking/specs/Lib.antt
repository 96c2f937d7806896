pub mod Claims
pub mod Patching
pub mod PatchLists
pub mod Supers
pub mod StubSources
pub mod TooLarge
pub mod LinkAnswers
