pub mod HeaderLaws
pub mod TablesLaws
pub mod Unique
