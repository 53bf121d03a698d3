pub mod Quotient
pub mod Divisions
pub mod Layings
pub mod Plans
pub mod Theorems
