pub mod Answer
pub mod C7
pub mod Orders
pub mod Rivalry
