pub mod Accepting
pub mod LongLaws
pub mod NumbersLaws
pub mod ReadingLaws
pub mod SlotsLaws
pub mod Unique
