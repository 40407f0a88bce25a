pub mod Elders
