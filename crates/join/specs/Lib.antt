pub mod Folds
pub mod Joins
pub mod JoinsLemmas
