pub mod Cells
pub mod Layout
pub mod Sound
pub mod Meaning
