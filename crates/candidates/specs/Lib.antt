pub mod Slot
pub mod Window
pub mod Choice
pub mod Promises
pub mod Rounds
pub mod Scanning
