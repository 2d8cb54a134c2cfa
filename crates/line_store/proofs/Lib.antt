mod Cutting
mod Telling
mod Finding
mod Checking
mod Added
mod Listing
