mod Steps
mod Full
mod Closing
mod Found
mod Led
mod Started
