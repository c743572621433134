pub mod ClosingLaws
pub mod Unique
