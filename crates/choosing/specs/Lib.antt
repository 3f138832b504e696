pub mod Choosing
pub mod Scanning
pub mod Choose
pub mod Owning
pub mod Promises
pub mod ChoosePromises
