pub mod Fields
pub mod Judging
pub mod Laws
pub mod Plans
pub mod Spelling
pub mod Wrong
