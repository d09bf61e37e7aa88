pub mod Noekeon
