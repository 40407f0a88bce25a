pub mod Admitted
pub mod Stamps
