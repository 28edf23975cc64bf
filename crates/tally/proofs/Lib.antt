pub mod Algebra
mod Lines
pub mod Once
mod Places
