pub mod Answers
pub mod Faces
pub mod Exactly
pub mod Once
