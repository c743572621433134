pub mod ColumnsLaws
pub mod CrossbarLaws
pub mod Unique
