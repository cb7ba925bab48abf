pub mod Texts
pub mod Lines
pub mod Examples
pub mod Wording
pub mod Written
