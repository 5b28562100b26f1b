pub mod Line
pub mod Grammar
pub mod Reading
pub mod Writing
pub mod Tags
pub mod Lines
pub mod Input
