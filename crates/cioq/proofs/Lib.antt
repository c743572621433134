pub mod LeftLaws
pub mod CioqLaws
pub mod VisitLaws
pub mod Unique
