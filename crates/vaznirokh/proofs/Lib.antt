pub mod CarryLaws
pub mod LibraryLaws
pub mod Unique
