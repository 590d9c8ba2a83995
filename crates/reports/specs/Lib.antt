pub mod Accepted
pub mod Checked
pub mod Laws
pub mod Refused
pub mod Written
