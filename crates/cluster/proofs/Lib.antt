pub mod Clusters
pub mod Counts
pub mod Covers
pub mod Kept
pub mod Parted
pub mod Partitions
pub mod ThirdExchange
