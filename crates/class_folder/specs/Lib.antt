pub mod ClassFiles
pub mod FolderCalls
pub mod Reading
