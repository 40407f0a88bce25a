pub mod Layout
pub mod Room
pub mod Stack
