pub mod Gathered
pub mod Idleness
pub mod Marked
pub mod Numbered
pub mod Partwise
pub mod Readings
pub mod Sameness
