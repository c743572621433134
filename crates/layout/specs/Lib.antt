pub mod Header
pub mod Tables
pub mod File
