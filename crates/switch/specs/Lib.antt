pub mod Switch
pub mod Allowed
pub mod Steps
pub mod Draining
pub mod Making
pub mod Settling
