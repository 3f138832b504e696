pub mod Folded
pub mod Out
