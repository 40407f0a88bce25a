pub mod Bytes
pub mod Stamps
pub mod Lanes
pub mod Answered
