pub mod OutLaws
pub mod PageLaws
pub mod PlacesLaws
pub mod RoomLaws
pub mod TextCases
pub mod Unique
pub mod WrittenLaws
