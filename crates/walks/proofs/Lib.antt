pub mod Folds
pub mod Changes
