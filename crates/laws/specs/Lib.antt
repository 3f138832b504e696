pub mod Tests
pub mod Lists
pub mod Tables
pub mod Loops
pub mod Counting
pub mod Ranges
pub mod Exactly
