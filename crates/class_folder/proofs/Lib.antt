-- The loop speaks of any names that were read before (`IsReadNext`), so its own names are no part of it.
-- The sum of sizes is a fold over names, and not over files.
-- What was read is the front of a file: `whole_of`, and `cut_whole` where the front is within the limit (OneFile.antt).
pub mod Asking
pub mod FileNames
pub mod OneFile
pub mod Options
pub mod Walk
