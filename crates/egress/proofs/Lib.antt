pub mod Rings
pub mod Orders
pub mod Masks
pub mod Credits
