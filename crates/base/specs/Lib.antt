pub mod Below
pub mod Refusal
pub mod Digits
