pub mod Calls
pub mod Comparison
pub mod Played
pub mod Runs
pub mod Shift
pub mod Views
