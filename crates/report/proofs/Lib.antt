pub mod ReportLaws
pub mod RoomLaws
pub mod Unique
