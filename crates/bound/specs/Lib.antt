pub mod Greedy
pub mod Rival
pub mod Switch
