pub mod Chains
pub mod Forms
pub mod Held
pub mod Made
pub mod PostSets
pub mod Vectors
