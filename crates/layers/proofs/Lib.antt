pub mod Shelving
