pub mod Formulas
pub mod Laws
pub mod Reading
pub mod Resolving
pub mod Shapes
pub mod Spelling
pub mod Truth
