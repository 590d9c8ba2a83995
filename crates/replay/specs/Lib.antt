pub mod CallLines
pub mod Replies
pub mod Reports
pub mod Sections
