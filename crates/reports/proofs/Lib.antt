pub mod Lengths
pub mod OneReport
pub mod Reported
pub mod Shortness
