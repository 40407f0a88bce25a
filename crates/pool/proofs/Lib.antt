pub mod Appending
pub mod Cells
pub mod Marking
pub mod Opens
pub mod Questions
pub mod Stacks
