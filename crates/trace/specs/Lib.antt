pub mod Reading
pub mod Slots
