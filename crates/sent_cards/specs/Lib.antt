-- What a received file is judged to be.
pub mod Sent
