pub mod FilledLaws
pub mod PrintedLaws
