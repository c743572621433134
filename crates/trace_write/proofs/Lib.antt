pub mod RoundTrip
pub mod Unique
pub mod WritingLaws
