pub mod Ends
pub mod Firsts
pub mod Passing
pub mod Told
pub mod Walk
