pub mod History
pub mod Laws
pub mod Posts
pub mod Reads
pub mod Records
pub mod Vectors
pub mod Walk
