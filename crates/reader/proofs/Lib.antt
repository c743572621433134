pub mod PartLaws
pub mod RequestsLaws
pub mod Unique
