pub mod Piled
pub mod Cases
