mod Cutting
mod Following
mod Listing
