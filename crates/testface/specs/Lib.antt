pub mod Testface
