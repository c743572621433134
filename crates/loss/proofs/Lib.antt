pub mod LossLaws
pub mod Unique
