pub mod Numbers
pub mod Reporting
pub mod Sectioned
pub mod WholeDepots
pub mod Worded
