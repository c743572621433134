pub mod RoomLaws
pub mod Unique
