pub mod ImageLaws
pub mod Unique
